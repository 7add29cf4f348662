-- Answers of cookie_life: cookies hold nothing (`nothing`), and are good for a while (`lasts`, `ends`).
use Rattle.pfs_engine_machine.proofs.CookieLives.{cookies-end, cookies-last, nothing-is-held}
use Rattle.pfs_engine_machine.proofs.cookies.cookie_life.Goals as goal

pub returns-clause-nothing : goal.returns-clause-nothing
returns-clause-nothing c = nothing-is-held c.args.config.now

pub returns-clause-lasts : goal.returns-clause-lasts
returns-clause-lasts c = cookies-last c.args.config.now c.args.events.now c.requires.order

pub returns-clause-ends : goal.returns-clause-ends
returns-clause-ends c = cookies-end c.args.config.now c.args.events.now c.requires.order
