-- What the phases of every protocol keep: no rank falls, and a handshake completes once and stays complete.
use Rattle.std.specs.Prelude.{ℕ, Bool, true, false, ◌≡◌, ◌≤◌}
use Rattle.pfs_addr_values.specs.declared.flag_sets.Flags.{Flags}

-- no packet lowers a rank
abbrev pub NeverFalls : {P : Type 0} → (P → ℕ) → (P → Bool → Flags → P) → Type 0
NeverFalls {P = P} rank after = (p : P) (forward : Bool) (flags : Flags) → rank p ≤ rank (after p forward flags)

-- a handshake completes only in a phase in which it has not, and the phase after that says that it has
abbrev pub CompletesOnce : {P : Type 0} → (P → Bool) → (P → Bool → Flags → P) → (P → Bool → Flags → Bool) → Type 0
CompletesOnce {P = P} is_complete after completes =
    (p : P) (forward : Bool) (flags : Flags) → completes p forward flags ≡ true
    → (is_complete p ≡ false) × (is_complete (after p forward flags) ≡ true)

-- a handshake that has completed stays so
abbrev pub StaysComplete : {P : Type 0} → (P → Bool) → (P → Bool → Flags → P) → Type 0
StaysComplete {P = P} is_complete after =
    (p : P) (forward : Bool) (flags : Flags) → is_complete p ≡ true → is_complete (after p forward flags) ≡ true
