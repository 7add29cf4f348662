-- What is held, as one value: what its callers see, what it keeps, and what a call makes of it. (not promised)
use Rattle.std.specs.Prelude.{ℕ, ◌≡◌, Bool, true, Some, List, length, option_map, Result, IfOk, OnErr}
use Rattle.pfs_addr_values.specs.Packets.{PacketView}
use Rattle.pfs_eval.specs.Holdings.{Holdings}
use Rattle.pfs_conf_values.specs.Configs.{Conf, limit_of}
use Rattle.pfs_conf_values.specs.Invariants.{IsConfig}
use Rattle.pfs_conf_values.specs.declared.items.Item.{Item}
use Rattle.pfs_conf_values.specs.declared.limits.LimitName.TheVariants as limit_name
use Rattle.pfs_store_contract.specs.Calls.{state_number, state_rule}
use Rattle.pfs_store_contract.specs.Worlds.{World}
use Rattle.pfs_store_contract.specs.declared.records.StateHandle.{StateHandle}
use Rattle.pfs_engine_machine.specs.Guards.{Guard}
use Rattle.pfs_engine_machine.specs.Machine.{MachineContents, answer_behind_guard, answer_to_packet, held_behind_guard, held_for, held_of}
use Rattle.pfs_engine_machine.specs.Sides.{state_for}
use Rattle.pfs_engine_machine.specs.declared.events.Outcome.{Outcome}

-- the configuration, what is held under it, how many more entries fit into each table without memory, and the store
pub record ContentsView (X : Type 0) : Type 0 where
  pub config : Conf
  pub held : MachineContents
  pub room : List ℕ
  pub store : X

-- what is seen of a configuration, a store and its world, and tables
abbrev pub view_of : {X : Type 0} → Conf → X → World → Holdings → ContentsView X
view_of conf store w tables = record { config = conf; held = held_of w tables.entries; room = tables.room; store = store }

-- this was found of the state that has a packet's key, and the store still reaches it
pub record IsReachedBy {X : Type 0} (reaches : X → StateHandle → Bool) (v : ContentsView X) (p : PacketView) (found : StateHandle) : Type 0 where
  pub number : option_map state_number (state_for v.held.world p) ≡ Some found.number
  pub rule : option_map state_rule (state_for v.held.world p) ≡ Some found.rule
  pub reached : reaches v.store found ≡ true

-- its tables, which are under the limit of the configuration
abbrev pub tables_held : {X : Type 0} → ContentsView X → Holdings
tables_held v = record { entries = v.held.tables; room = v.room; limit = limit_of v.config limit_name.TableEntries }

-- the store, the compiled ruleset and the tables are for the configuration, which keeps the load rules
pub record IsMadeFor (conf of_store : Conf) (compiled : List Item) (holdings : Holdings) : Type 0 where
  pub store : of_store ≡ conf
  pub items : compiled ≡ conf.items
  pub limit : holdings.limit ≡ limit_of conf limit_name.TableEntries
  pub tables : length holdings.entries ≡ length conf.tables
  pub config : IsConfig conf

-- ---- what a call makes of it

-- this is held after it, under the same configuration
pub record IsHeldAfter {X : Type 0} (before after : ContentsView X) (h : MachineContents) : Type 0 where
  pub held : after.held ≡ h
  pub config : after.config ≡ before.config

-- this is told, and held after it, under the same configuration
pub record IsDone {X : Type 0} (o : Outcome) (wanted : Outcome × MachineContents) (before after : ContentsView X) : Type 0 where
  pub told : (o, after.held) ≡ wanted
  pub config : after.config ≡ before.config

-- the same of an answer, by the outcome that it stands for; where memory was refused, this is held
pub record IsAnsweredOr {A E X : Type 0} (answer : Result A E) (outcome : A → Outcome) (wanted : Outcome × MachineContents) (else_held : MachineContents) (before after : ContentsView X)
    : Type 0 where
  pub ok : IfOk answer (λ a. (outcome a, after.held) ≡ wanted)
  pub err : OnErr answer (after.held ≡ else_held)
  pub config : after.config ≡ before.config

-- where memory was refused, nothing that is held has changed
abbrev pub IsAnsweredAs : {A E X : Type 0} → Result A E → (A → Outcome) → Outcome × MachineContents → ContentsView X → ContentsView X → Type 0
IsAnsweredAs answer outcome wanted before after = IsAnsweredOr answer outcome wanted before.held before after

-- of an answer that is the outcome itself
abbrev pub IsAnswered : {E X : Type 0} → Result Outcome E → Outcome × MachineContents → ContentsView X → ContentsView X → Type 0
IsAnswered answer wanted before after = IsAnsweredAs answer (λ o. o) wanted before after

-- of a packet that brings a cookie, or not: where memory was refused, what it meets is held
abbrev pub IsAnsweredTo : {E X : Type 0} → Result Outcome E → PacketView → Bool → ℕ → ContentsView X → ContentsView X → Type 0
IsAnsweredTo answer p cookie now before after =
    IsAnsweredOr answer (λ o. o) (answer_to_packet before.config before.held p cookie now) (held_for before.config before.held p now) before after

-- of a packet behind the guard
abbrev pub IsAnsweredBehindGuard : {E X : Type 0} → Result Outcome E → Guard → PacketView → ℕ → ContentsView X → ContentsView X → Type 0
IsAnsweredBehindGuard answer guard p now before after =
    IsAnsweredOr answer (λ o. o) (answer_behind_guard before.config guard before.held p now) (held_behind_guard before.config guard before.held p now) before after
