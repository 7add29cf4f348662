-- Answer of push_timeout_list: one timeout more goes on with the list.
use Rattle.std.proofs.Common.{◌≡◌, ◌<◌, ℕ, List, length, get_or, ap, ◌∙◌}
use Rattle.std.specs.Prelude.{codes}
use Rattle.pfs_conf_values.specs.Timeouts.{timeout_names}
use Rattle.pfs_conf_values.specs.declared.timeouts.TimeoutName.TheVariants.{TcpFirst}
use Rattle.pfs_conf_show.specs.Pieces.{word_and_number}
use Rattle.pfs_conf_show.specs.Settings.{timeout_text, timeout_word}
use Rattle.pfs_conf_show.proofs.ListLaws.{list_step, begun_step}
use Rattle.pfs_conf_show.proofs.settings.push_timeout_list.Goals as goal

pub loop-name-preserved : goal.loop-name-preserved
loop-name-preserved c =
    let i = c.loop-name.name-index in
    let within : i < length timeout_names = c.loop-name-test.true in
    let name = get_or timeout_names i TcpFirst in
    let text = timeout_text c.args.config.now.timeouts in
    let word : c.timeout_word.result.now ≡ timeout_word name = c.timeout_word.ensures in
    let x : word_and_number c.timeout_word.result.now c.timeout.result ≡ text name =
    ap (λ (w : List ℕ). word_and_number w c.timeout.result) word ∙ ap (word_and_number (timeout_word name)) c.timeout.ensures.value in
    record {
      text = list_step (codes " { ") text timeout_names i TcpFirst c.args.out.now.items c.loop-name.out.items c.push_item.new.out.items c.loop-name.begun
          (word_and_number c.timeout_word.result.now c.timeout.result) within c.loop-name.invariant.text c.loop-name.invariant.begun x c.in_ok-push_item.ensures;
      begun = begun_step text timeout_names i TcpFirst within;
    }
