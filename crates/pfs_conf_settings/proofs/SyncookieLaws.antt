-- The readers of `set syncookies` look no further than the token in front of what they leave.
use Rattle.std.proofs.Common.{ℕ, List, Option, Some, None, refl}
use Rattle.pfs_conf_tokens.specs.declared.keys.Key.{Key}
use Rattle.pfs_conf_tokens.specs.declared.keys.Key.TheVariants as key
use Rattle.pfs_conf_tokens.specs.Reading.{chain, comma_at}
use Rattle.pfs_conf_tokens.proofs.Laws.{Taking, OnlineAct, Online, inside, online_done, online_chain, online_front, online_taking}
use Rattle.pfs_conf_tokens.proofs.ReaderLaws.{online_comma}
use Rattle.pfs_conf_values.specs.declared.syncookies.Syncookies.{Syncookies}
use Rattle.pfs_conf_values.specs.declared.syncookies.Syncookies.TheVariants as cookies
use Rattle.pfs_conf_settings.specs.Drafts.{usual_shares}
use Rattle.pfs_conf_settings.specs.Syncookies.{shares_closed_at, shares_closed_by, end_share_at, end_share_by, share_at, share_by, share_found, share_of, shares_at, shares_by, start_share_at, start_share_by, syncookies_at, syncookies_by}

share_taking : (text : List ℕ) (k : Key) → Taking inside k (share_by text k)
share_taking text key.Number = found (share_of text)
  where
    found : (o : Option ℕ) → Taking inside key.Number (share_found o)
    found None = tt
    found (Some n) = (refl, online_done n)
share_taking text _ = tt

online_share : Online inside share_at
unfolding share_at
online_share = online_taking (λ t. share_by t.text t.key) (λ t. share_taking t.text t.key)

closed_taking : (s : Syncookies) (k : Key) → Taking inside k (shares_closed_by s k)
closed_taking s key.CloseParen = (refl, online_done s)
closed_taking s _ = tt

online_closed : (s : Syncookies) → Online inside (shares_closed_at s)
online_closed s = online_taking (λ t. shares_closed_by s t.key) (λ t. closed_taking s t.key)

end_taking : (start : ℕ) (k : Key) → Taking inside k (end_share_by start k)
end_taking start key.EndWord = (refl, online_chain share_at (λ end. shares_closed_at (cookies.Adaptive start end)) online_share (λ end. online_closed (cookies.Adaptive start end)))
end_taking start _ = tt

online_end : (start : ℕ) → Online inside (end_share_at start)
unfolding end_share_at
online_end start = online_taking (λ t. end_share_by start t.key) (λ t. end_taking start t.key)

start_taking : (k : Key) → Taking inside k (start_share_by k)
start_taking key.Start = (
  refl,
  online_chain share_at (λ start. chain comma_at (λ c. end_share_at start)) online_share (λ start. online_chain comma_at (λ c. end_share_at start) (online_comma inside) (λ c. online_end start)),
)
start_taking _ = tt

online_start : Online inside start_share_at
unfolding start_share_at
online_start = online_taking (λ t. start_share_by t.key) (λ t. start_taking t.key)

shares_act : (k : Key) → OnlineAct inside k (shares_by k)
shares_act key.OpenParen = (refl, online_start)
shares_act _ = online_done usual_shares

online_shares : Online inside shares_at
unfolding shares_at
online_shares = online_front (λ t. shares_by t.key) (λ t. shares_act t.key)

syncookies_taking : (k : Key) → Taking inside k (syncookies_by k)
syncookies_taking key.Never = (refl, online_done cookies.Never)
syncookies_taking key.Always = (refl, online_done cookies.Always)
syncookies_taking key.Adaptive = (refl, online_shares)
syncookies_taking _ = tt

pub online_syncookies : Online inside syncookies_at
unfolding syncookies_at
online_syncookies = online_taking (λ t. syncookies_by t.key) (λ t. syncookies_taking t.key)
