-- The score of a source's node and that of the source's history have the same future, whichever states and nodes leave.
use Rattle.std.proofs.Common.{◌≡◌, ℕ, ◌+◌, ◌-◌, ◌*◌, ◌/◌, ◌<◌, ◌≤◌, Bool, true, false, nat_le, nat_lt, ◌&&◌, ◌||◌, not, cond, ◌==◌, ◌⊎◌, inl, inr, min, List, [], ◌∷◌, filter, map, refl, ap, ◌∙◌, sym, arith}
use Rattle.std.specs.List.{AllByRecursion}
use Rattle.std.proofs.lemmas.Bool.{false≢true}
use Rattle.std.proofs.lemmas.Bool.Decides.{nat_tests}
use Rattle.pfs_addr_values.proofs.SameLaws.{same_addr_true}
use Rattle.pfs_addr_values.specs.Sameness.{same_addr}
use Rattle.pfs_addr_values.specs.declared.addresses.Addr.{Addr}
use Rattle.pfs_conf_values.specs.Configs.{Conf}
use Rattle.pfs_engine_machine.proofs.Counts.{any-map}
use Rattle.pfs_engine_machine.proofs.KeptTime.{left-is_node}
use Rattle.pfs_engine_machine.specs.MachineInvariants.{own_scope}
use Rattle.pfs_store_contract.specs.Counts.{has_node, is_node, node_states, same_scope}
use Rattle.pfs_store_contract.specs.Leaving.{node_after_leaving, node_retention}
use Rattle.pfs_store_contract.specs.Purging.{is_among, is_over, node_stays}
use Rattle.pfs_store_contract.specs.declared.records.Node.{Node}
use Rattle.pfs_store_contract.specs.declared.records.NodeScope.{NodeScope}
use Rattle.pfs_store_contract.specs.declared.records.State.{State}
use Rattle.pfs_track.specs.Scores.{decayed_score, score_after, zero_score}
use Rattle.pfs_track.specs.declared.scores.Score.{Score}
use Rattle.pfs_store_contract.proofs.ScopeLaws.{same_scope_true}
use Rattle.pfs_engine_machine.proofs.Lists.{both, each-filter, each-map, each-of}

-- ---- scores with the same future

-- from a moment on, a handshake makes the same of two scores
abbrev pub Agrees : ℕ → ℕ → Score → Score → Type 0
Agrees seconds now x y = (t : ℕ) → now ≤ t → score_after seconds x t ≡ score_after seconds y t

decayed_zero : (seconds d : ℕ) → decayed_score seconds 0 d ≡ 0
decayed_zero seconds d = go (nat_le seconds d)
  where
    less : (x : ℕ) → 0 - x ≡ 0
    less x = omega arith

    go : (b : Bool) → cond b 0 (0 - 0 * d / seconds) ≡ 0
    go true = refl
    go false = less (0 * d / seconds)

decayed_late : (seconds value d : ℕ) → seconds ≤ d → decayed_score seconds value d ≡ 0
decayed_late seconds value d h = let e : nat_le seconds d ≡ true = grind (arith, nat_tests) in rw e refl

-- a score whose time is over is no other than none
over-agrees : (seconds now : ℕ) (x : Score) → x.last + seconds ≤ now → Agrees seconds now x zero_score
over-agrees seconds now x h t later =
    ap (λ (v : ℕ). score_of (v + 1000)) (decayed_late seconds x.value (t - x.last) (omega (arith, h, later)) ∙ sym (decayed_zero seconds (t - 0)))
  where
    score_of : ℕ → Score
    score_of v = record { value = min v 4294968000; last = t }

-- ---- what is known of the nodes of a rule and a source, where the whole history has a score

pub record KnowsScore (seconds now : ℕ) (history : Score) (count : ℕ) (n : Node) : Type 0 where
  pub agrees : Agrees seconds now n.score history
  pub last : n.score.last ≤ now
  pub over : count ≡ 0 → (n.score ≡ zero_score) ⊎ (n.score.last + seconds ≤ n.expires)

-- a node of this rule and source is one of which that is known
abbrev pub IsKnown : ℕ → Addr → ℕ → ℕ → Score → ℕ → Node → Type 0
IsKnown rule source seconds now history count n = is_node (own_scope rule) source n ≡ true → KnowsScore seconds now history count n

pub record Remembers (rule : ℕ) (source : Addr) (seconds now : ℕ) (history : Score) (count : ℕ) (held : List Node) : Type 0 where
  pub nodes : AllByRecursion (IsKnown rule source seconds now history count) held
  pub absent : has_node (own_scope rule) source held ≡ false → Agrees seconds now zero_score history
  pub noded : 0 < count → has_node (own_scope rule) source held ≡ true

-- time passes
knows-later : (seconds now later : ℕ) (history : Score) (count : ℕ) (n : Node) → now ≤ later → KnowsScore seconds now history count n → KnowsScore seconds later history count n
knows-later seconds now later history count n h k = record {
  agrees = λ t g. k.agrees t (omega (arith, h, g));
  last = omega (arith, h, k.last);
  over = k.over;
}

pub remembers-later : (rule : ℕ) (source : Addr) (seconds now later : ℕ) (history : Score) (count : ℕ) (nodes : List Node) → now ≤ later
    → Remembers rule source seconds now history count nodes → Remembers rule source seconds later history count nodes
remembers-later rule source seconds now later history count nodes h r = record {
  nodes = each-of (IsKnown rule source seconds now history count) (IsKnown rule source seconds later history count)
      (λ n f e. knows-later seconds now later history count n h (f e)) nodes r.nodes;
  absent = λ e t g. r.absent e t (omega (arith, h, g));
  noded = r.noded;
}

-- ---- states leave

scope-of-node : (scope : NodeScope) (source : Addr) (n : Node) → is_node scope source n ≡ true → n.scope ≡ scope
scope-of-node scope source n e = same_scope_true n.scope scope (both (same_scope n.scope scope) (same_addr n.source source) e).0

source-of-node : (scope : NodeScope) (source : Addr) (n : Node) → is_node scope source n ≡ true → n.source ≡ source
source-of-node scope source n e = same_addr_true n.source source (both (same_scope n.scope scope) (same_addr n.source source) e).1

count-of-node : (conf : Conf) (scope : NodeScope) (source : Addr) (n : Node) (states : List State) → is_node scope source n ≡ true
    → node_states conf n.scope n.source states ≡ node_states conf scope source states
count-of-node conf scope source n states e =
    ap (λ (x : NodeScope). node_states conf x n.source states) (scope-of-node scope source n e) ∙ ap (λ (a : Addr). node_states conf scope a states) (source-of-node scope source n e)

knows-left : (conf : Conf) (before after : List State) (rule : ℕ) (source : Addr) (seconds now : ℕ) (history : Score) (n : Node)
    → seconds ≤ node_retention conf (own_scope rule) → is_node (own_scope rule) source n ≡ true → KnowsScore seconds now history (node_states conf (own_scope rule) source before) n
    → KnowsScore seconds now history (node_states conf (own_scope rule) source after) (node_after_leaving conf before after now n)
knows-left conf before after rule source seconds now history n long e k =
    go (nat_lt 0 (node_states conf n.scope n.source before) && (node_states conf n.scope n.source after == 0)) refl
  where
    none : (x y : ℕ) → (nat_lt 0 x && (y == 0)) ≡ false → y ≡ 0 → x ≡ 0
    none x y f g = grind (arith, nat_tests)

    go : (b : Bool) → (nat_lt 0 (node_states conf n.scope n.source before) && (node_states conf n.scope n.source after == 0)) ≡ b
        → KnowsScore seconds now history (node_states conf (own_scope rule) source after) (cond b (record n { expires = now + node_retention conf n.scope }) n)
    go true f =
        let kept = ap (node_retention conf) (scope-of-node (own_scope rule) source n e) in
        record { agrees = k.agrees; last = k.last; over = λ z. inr (omega (arith, k.last, kept, long)) }
    go false f = record {
      agrees = k.agrees;
      last = k.last;
      over = λ z. k.over (sym (count-of-node conf (own_scope rule) source n before e)
          ∙ none (node_states conf n.scope n.source before) (node_states conf n.scope n.source after) f (count-of-node conf (own_scope rule) source n after e ∙ z));
    }

-- only fewer states are of a node
pub remembers-left : (conf : Conf) (before after : List State) (rule : ℕ) (source : Addr) (seconds now : ℕ) (history : Score) (nodes : List Node)
    → seconds ≤ node_retention conf (own_scope rule) → node_states conf (own_scope rule) source after ≤ node_states conf (own_scope rule) source before
    → Remembers rule source seconds now history (node_states conf (own_scope rule) source before) nodes
    → Remembers rule source seconds now history (node_states conf (own_scope rule) source after) (map (node_after_leaving conf before after now) nodes)
remembers-left conf before after rule source seconds now history nodes long fewer r =
    let same = any-map (is_node (own_scope rule) source) (node_after_leaving conf before after now) (left-is_node conf before after now (own_scope rule) source) nodes in
    record {
      nodes = each-map (IsKnown rule source seconds now history (node_states conf (own_scope rule) source before))
          (IsKnown rule source seconds now history (node_states conf (own_scope rule) source after)) (node_after_leaving conf before after now)
          (λ n f e. let g : is_node (own_scope rule) source n ≡ true = sym (left-is_node conf before after now (own_scope rule) source n) ∙ e in
          knows-left conf before after rule source seconds now history n long g (f g)) nodes r.nodes;
      absent = λ e. r.absent (sym same ∙ e);
      noded = λ some. same ∙ r.noded (omega (arith, some, fewer));
    }

-- ---- nodes leave

-- neither a state of the source is held, nor does its history count any more
abbrev IsLost : Conf → ℕ → Addr → ℕ → ℕ → Score → List State → Type 0
IsLost conf rule source seconds now history states =
    (node_states conf (own_scope rule) source states ≡ 0) × Agrees seconds now zero_score history

over-at : (conf : Conf) (rule : ℕ) (source : Addr) (seconds now : ℕ) (history : Score) (states : List State) (n : Node)
    → is_node (own_scope rule) source n ≡ true
    → KnowsScore seconds now history (node_states conf (own_scope rule) source states) n → is_over conf states now n ≡ true
    → IsLost conf rule source seconds now history states
over-at conf rule source seconds now history states n e k over =
    let parts = both (node_states conf n.scope n.source states == 0) (nat_le n.expires now) over in
    let count : node_states conf (own_scope rule) source states ≡ 0 =
    sym (count-of-node conf (own_scope rule) source n states e) ∙ zero_is (node_states conf n.scope n.source states) parts.0 in
    (count, λ t later. sym (none (within n.expires now parts.1) (k.over count) t later) ∙ k.agrees t later)
  where
    none : n.expires ≤ now → (n.score ≡ zero_score) ⊎ (n.score.last + seconds ≤ n.expires) → Agrees seconds now n.score zero_score
    none late (inl zero) t later = ap (λ (x : Score). score_after seconds x t) zero
    none late (inr over) t later = over-agrees seconds now n.score (omega (arith, late, over)) t later

    zero_is : (x : ℕ) → (x == 0) ≡ true → x ≡ 0
    zero_is x f = grind (arith, nat_tests)

    within : (x y : ℕ) → nat_le x y ≡ true → x ≤ y
    within x y f = grind (arith, nat_tests)

-- where the last of the nodes leaves
lost : (conf : Conf) (rule : ℕ) (source : Addr) (seconds now : ℕ) (history : Score) (states : List State) (examined : List ℕ) (ns : List Node)
    → AllByRecursion (IsKnown rule source seconds now history (node_states conf (own_scope rule) source states)) ns
    → has_node (own_scope rule) source ns ≡ true → has_node (own_scope rule) source (filter (node_stays conf states now examined) ns) ≡ false
    → IsLost conf rule source seconds now history states
lost conf rule source seconds now history states examined [] all has gone = absurd (false≢true has)
lost conf rule source seconds now history states examined (n ∷ ns) all has gone =
    go (is_node (own_scope rule) source n) refl (node_stays conf states now examined n) refl has gone (lost conf rule source seconds now history states examined ns all.1)
  where
    leaves : (a b : Bool) → not (a && b) ≡ false → b ≡ true
    leaves true true f = refl
    leaves true false f = absurd (false≢true (sym f))
    leaves false b f = absurd (false≢true (sym f))

    stay : List Node
    stay = filter (node_stays conf states now examined) ns

    go : (a : Bool) → is_node (own_scope rule) source n ≡ a → (b : Bool) → node_stays conf states now examined n ≡ b
        → (a || has_node (own_scope rule) source ns) ≡ true → has_node (own_scope rule) source (cond b (n ∷ stay) stay) ≡ false
        → (has_node (own_scope rule) source ns ≡ true → has_node (own_scope rule) source stay ≡ false → IsLost conf rule source seconds now history states)
        → IsLost conf rule source seconds now history states
    go true e true f h g i = absurd (false≢true (sym g ∙ rw e refl))
    go true e false f h g i =
        over-at conf rule source seconds now history states n e (all.0 e) (leaves (is_among examined n.number) (is_over conf states now n) f)
    go false e true f h g i = i h (rw e at g)
    go false e false f h g i = i h g

pub remembers-purged : (conf : Conf) (rule : ℕ) (source : Addr) (seconds now : ℕ) (history : Score) (states : List State) (examined : List ℕ) (nodes : List Node)
    → Remembers rule source seconds now history (node_states conf (own_scope rule) source states) nodes
    → Remembers rule source seconds now history (node_states conf (own_scope rule) source states) (filter (node_stays conf states now examined) nodes)
remembers-purged conf rule source seconds now history states examined nodes r = record {
  nodes = each-filter (IsKnown rule source seconds now history (node_states conf (own_scope rule) source states)) (node_stays conf states now examined) nodes r.nodes;
  absent = λ e. without (has_node (own_scope rule) source nodes) refl e;
  noded = λ some. with (has_node (own_scope rule) source (filter (node_stays conf states now examined) nodes)) refl some;
}
  where
    without : (b : Bool) → has_node (own_scope rule) source nodes ≡ b → has_node (own_scope rule) source (filter (node_stays conf states now examined) nodes) ≡ false
        → Agrees seconds now zero_score history
    without false h e = r.absent h
    without true h e = (lost conf rule source seconds now history states examined nodes r.nodes h e).1

    with : (b : Bool) → has_node (own_scope rule) source (filter (node_stays conf states now examined) nodes) ≡ b
        → 0 < node_states conf (own_scope rule) source states → b ≡ true
    with true e some = refl
    with false e some = absurd (omega (arith, some, (lost conf rule source seconds now history states examined nodes r.nodes (r.noded some) e).0))
