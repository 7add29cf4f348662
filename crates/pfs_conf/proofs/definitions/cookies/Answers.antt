-- Answer of cookies: shares that break no load rule may be set.
use Rattle.std.proofs.Common.{sym, ◌∙◌}
use Rattle.pfs_conf_settings.proofs.SyncookiePhrases.{are_syncookies}
use Rattle.pfs_conf.proofs.LoadLaws.{not_some}
use Rattle.pfs_conf.proofs.KeepLaws.{shares_kept}
use Rattle.pfs_conf.proofs.definitions.cookies.Goals as goal

pub set_syncookies-requires : goal.set_syncookies-requires
set_syncookies-requires c =
    are_syncookies c.in-Ok.syncookies c.in-Ok.ensures.within
    (shares_kept c.in-Ok.syncookies (sym c.cookies_break.ensures ∙ not_some c.cookies_break.result c.in_default.not-Some))
