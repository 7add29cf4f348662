-- Answer of read_syncookies: the start of what is read is a share (`within`).
use Rattle.pfs_conf_settings.proofs.SyncookiePhrases.{gives_within}
use Rattle.pfs_conf_settings.proofs.syncookies.read_syncookies.Goals as goal

pub returns-clause-within : goal.returns-clause-within
returns-clause-within c = gives_within c.syncookies.result c.syncookies.new.cursor c.args.cursor.now c.syncookies.ensures
