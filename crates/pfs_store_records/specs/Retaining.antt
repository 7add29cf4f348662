-- Up to when a source node stays, and whether it is past its time. (own)
use Rattle.std.specs.Prelude.{ℕ, ◌≡◌, ◌≤◌, ◌==◌, ◌&&◌, nat_le, Bool}
use Rattle.pfs_store_records.specs.declared.nodes.NodeTally.{NodeTally}

-- the node of a tally has no state, and the moment has come from which it may leave
abbrev pub is_past : ℕ → NodeTally → Bool
is_past now t = (t.states == 0) && nat_le t.node.expires now

-- the node of a tally does not leave before a moment, unless it has states
abbrev pub IsKeptUntil : ℕ → NodeTally → Type 0
IsKeptUntil until t = t.states ≡ 0 → until ≤ t.node.expires
