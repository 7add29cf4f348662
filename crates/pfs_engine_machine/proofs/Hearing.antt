-- The score of a source's node and that of the source's history are the same at each handshake, through a whole run.
use Rattle.std.proofs.Common.{◌≡◌, ℕ, ◌<◌, ◌≤◌, Bool, true, false, ◌&&◌, ◌||◌, cond, ◌==◌, List, [], ◌∷◌, map, Option, Some, None, refl, ap, ◌∙◌, sym, arith}
use Rattle.std.specs.List.{AllByRecursion}
use Rattle.std.proofs.lemmas.Bool.{false≢true}
use Rattle.std.proofs.lemmas.Bool.Decides.{nat_tests}
use Rattle.pfs_addr_values.proofs.SameLaws.{same_addr_self, same_addr_true}
use Rattle.pfs_addr_values.specs.Keys.{key_of}
use Rattle.pfs_addr_values.specs.Packets.{PacketView}
use Rattle.pfs_addr_values.specs.Sameness.{same_addr, same_key}
use Rattle.pfs_addr_values.specs.declared.addresses.Addr.{Addr}
use Rattle.pfs_conf_values.proofs.RuleLaws.{rated-scope}
use Rattle.pfs_conf_values.specs.Configs.{Conf, options_of, rate_seconds, rule_retention, scope_of, timeout_of}
use Rattle.pfs_conf_values.specs.Invariants.{IsConfig}
use Rattle.pfs_conf_values.specs.declared.actions.Rate.{Rate}
use Rattle.pfs_conf_values.specs.declared.actions.Scope.{Scope}
use Rattle.pfs_conf_values.specs.declared.actions.Scope.TheVariants as scope
use Rattle.pfs_conf_values.specs.declared.actions.StateOptions.{StateOptions}
use Rattle.pfs_conf_values.specs.declared.items.RuleNo.{RuleNo}
use Rattle.pfs_conf_values.specs.declared.profiles.Profile.{Profile}
use Rattle.pfs_conf_values.specs.declared.profiles.Profile.TheVariants as profile
use Rattle.pfs_conf_values.specs.declared.timeouts.TimeoutName.TheVariants as timeout
use Rattle.pfs_store_contract.specs.Counts.{has_node, is_node, is_of_node, node_scope_under, node_scope_of, node_states, same_scope}
use Rattle.pfs_store_contract.specs.Leaving.{node_retention}
use Rattle.pfs_store_contract.specs.Touching.{node_score, nodes_scored, numbered_state_after, node_after_handshake, state_after_packet}
use Rattle.pfs_store_contract.specs.Worlds.{World}
use Rattle.pfs_store_contract.specs.declared.records.Node.{Node}
use Rattle.pfs_store_contract.specs.declared.records.NodeScope.{NodeScope}
use Rattle.pfs_store_contract.specs.declared.records.NodeScope.TheVariants as node_scope
use Rattle.pfs_store_contract.specs.declared.records.State.{State}
use Rattle.pfs_track.specs.Scores.{score_after}
use Rattle.pfs_track.specs.declared.scores.Score.{Score}
use Rattle.pfs_engine_machine.proofs.Counts.{any-map, count-map}
use Rattle.pfs_engine_machine.specs.MachineInvariants.{TracksAlone, own_scope}
use Rattle.pfs_engine_machine.specs.Sides.{state_for, met_key}
use Rattle.pfs_engine_machine.proofs.Lists.{both, count-found, each-map}
use Rattle.pfs_store_contract.proofs.ScopeLaws.{same_scope_true}
use Rattle.pfs_engine_machine.proofs.Remembering.{IsKnown, KnowsScore, Remembers}
use Rattle.pfs_engine_machine.proofs.Keys.{found-by}

-- ---- a rule with a rate

pub record IsRated (conf : Conf) (rule : ℕ) (rate : Rate) : Type 0 where
  pub is : (options_of conf rule).max_src_conn_rate ≡ Some rate
  pub alone : TracksAlone conf rule

pub rated : (conf : Conf) → IsConfig conf → (rule : ℕ) (rate : Rate) → (options_of conf rule).max_src_conn_rate ≡ Some rate → IsRated conf rule rate
rated conf sound rule rate is = record { is = is; alone = rated-scope conf sound rule (rw is refl) }

-- a node is retained no shorter than the seconds of the rate
pub long : (conf : Conf) (rule : ℕ) (rate : Rate) → IsRated conf rule rate → rate.seconds ≤ node_retention conf (own_scope rule)
long conf rule rate i = let e = ap rate_seconds i.is in omega (arith, by conf.profile (timeout_of conf timeout.SrcTrack) (options_of conf rule), e)
  where
    by : (p : Profile) (global : ℕ) (o : StateOptions) → rate_seconds o.max_src_conn_rate ≤ rule_retention p global o
    by profile.Own global o = omega arith
    by profile.OpenBsd74 global o = grind (arith, nat_tests)

pub scope-rated : (conf : Conf) (rule : ℕ) (rate : Rate) → IsRated conf rule rate → node_scope_of conf rule ≡ Some (own_scope rule)
scope-rated conf rule rate i = ap (node_scope_under rule) i.alone

abbrev numbered : ℕ → RuleNo
numbered n = record { 0 = n }

-- a rule whose nodes are those of this rule alone is this one
own-rule : (conf : Conf) (other rule : ℕ) → node_scope_of conf other ≡ Some (own_scope rule) → other ≡ rule
own-rule conf other rule e = go (scope_of conf other) e
  where
    go : (o : Option Scope) → node_scope_under other o ≡ Some (own_scope rule) → other ≡ rule
    go None f = absurd cc
    go (Some scope.Rule) f =
        let same : own_scope other ≡ own_scope rule = cc in
        let numbers : numbered other ≡ numbered rule = cc in
        ap (λ (r : RuleNo). r.0) numbers
    go (Some scope.Global) f =
        let same : node_scope.Global ≡ own_scope rule = cc in
        absurd cc

-- ---- a handshake of another rule or source

-- a state is one of this rule and source
abbrev pub is_of : ℕ → Addr → State → Bool
is_of rule source s = (s.rule.0 == rule) && same_addr s.source source

node-rescored : (scope other : NodeScope) (source from : Addr) (seconds now : ℕ) (n : Node) → is_node scope source (node_after_handshake other from seconds now n) ≡ is_node scope source n
node-rescored scope other source from seconds now n = go (is_node other from n)
  where
    go : (b : Bool) → is_node scope source (cond b (record n { score = score_after seconds n.score now }) n) ≡ is_node scope source n
    go true = refl
    go false = refl

-- a node is one of a scope and a source alone
one-node : (scope other : NodeScope) (source from : Addr) (n : Node) → is_node scope source n ≡ true → is_node other from n ≡ true → (other ≡ scope) × (from ≡ source)
one-node scope other source from n e f =
    let p = both (same_scope n.scope scope) (same_addr n.source source) e in
    let q = both (same_scope n.scope other) (same_addr n.source from) f in
    (sym (same_scope_true n.scope other q.0) ∙ same_scope_true n.scope scope p.0, sym (same_addr_true n.source from q.1) ∙ same_addr_true n.source source p.1)

remembers-other : (rule : ℕ) (source : Addr) (seconds now : ℕ) (history : Score) (count : ℕ) (other : NodeScope) (from : Addr) (seconds' : ℕ) (nodes : List Node)
    → (other ≡ own_scope rule → from ≡ source → ⊥) → Remembers rule source seconds now history count nodes
    → Remembers rule source seconds now history count (map (node_after_handshake other from seconds' now) nodes)
remembers-other rule source seconds now history count other from seconds' nodes apart r =
    let same = any-map (is_node (own_scope rule) source) (node_after_handshake other from seconds' now) (node-rescored (own_scope rule) other source from seconds' now) nodes in
    record {
      nodes = each-map (IsKnown rule source seconds now history count) (IsKnown rule source seconds now history count) (node_after_handshake other from seconds' now)
          (λ n f e. let g : is_node (own_scope rule) source n ≡ true = sym (node-rescored (own_scope rule) other source from seconds' now n) ∙ e in
          one n g (f g) (is_node other from n) refl) nodes r.nodes;
      absent = λ e. r.absent (sym same ∙ e);
      noded = λ some. same ∙ r.noded some;
    }
  where
    one : (n : Node) → is_node (own_scope rule) source n ≡ true → KnowsScore seconds now history count n → (b : Bool) → is_node other from n ≡ b
        → KnowsScore seconds now history count (cond b (record n { score = score_after seconds' n.score now }) n)
    one n e k false f = k
    one n e k true f = let both_are = one-node (own_scope rule) other source from n e f in absurd (apart both_are.0 both_are.1)

-- ---- a handshake of this rule and source

remembers-this : (rule : ℕ) (source : Addr) (seconds now : ℕ) (history : Score) (count : ℕ) (nodes : List Node) → 0 < count
    → Remembers rule source seconds now history count nodes
    → Remembers rule source seconds now (score_after seconds history now) count (map (node_after_handshake (own_scope rule) source seconds now) nodes)
remembers-this rule source seconds now history count nodes some r =
    let same = any-map (is_node (own_scope rule) source) (node_after_handshake (own_scope rule) source seconds now) (node-rescored (own_scope rule) (own_scope rule) source source seconds now) nodes in
    record {
      nodes = each-map (IsKnown rule source seconds now history count) (IsKnown rule source seconds now (score_after seconds history now) count)
          (node_after_handshake (own_scope rule) source seconds now)
          (λ n f e. let g : is_node (own_scope rule) source n ≡ true = sym (node-rescored (own_scope rule) (own_scope rule) source source seconds now n) ∙ e in
          one n (f g) (is_node (own_scope rule) source n) g) nodes r.nodes;
      absent = λ e. absurd (false≢true (sym e ∙ (same ∙ r.noded some)));
      noded = λ k. same ∙ r.noded k;
    }
  where
    one : (n : Node) → KnowsScore seconds now history count n → (b : Bool) → b ≡ true
        → KnowsScore seconds now (score_after seconds history now) count (cond b (record n { score = score_after seconds n.score now }) n)
    one n k false e = absurd (false≢true e)
    one n k true e = record {
      agrees = λ t later. ap (λ (x : Score). score_after seconds x t) (k.agrees now (omega arith));
      last = omega arith;
      over = λ z. absurd (omega (arith, z, some));
    }

-- the score that is then compared
pub score-this : (rule : ℕ) (source : Addr) (seconds now : ℕ) (history : Score) (count : ℕ) (nodes : List Node)
    → AllByRecursion (IsKnown rule source seconds now history count) nodes → has_node (own_scope rule) source nodes ≡ true
    → node_score (own_scope rule) source (map (node_after_handshake (own_scope rule) source seconds now) nodes) ≡ score_after seconds history now
score-this rule source seconds now history count [] all has = absurd (false≢true has)
score-this rule source seconds now history count (n ∷ ns) all has =
    go (is_node (own_scope rule) source n) refl has (score-this rule source seconds now history count ns all.1)
  where
    rest : List Node
    rest = map (node_after_handshake (own_scope rule) source seconds now) ns

    go : (b : Bool) → is_node (own_scope rule) source n ≡ b → (b || has_node (own_scope rule) source ns) ≡ true
        → (has_node (own_scope rule) source ns ≡ true → node_score (own_scope rule) source rest ≡ score_after seconds history now)
        → node_score (own_scope rule) source (cond b (record n { score = score_after seconds n.score now }) n ∷ rest) ≡ score_after seconds history now
    go true e h i = rw e ((all.0 e).agrees now (omega arith))
    go false e h i = rw e (i h)

-- ---- of what is held

abbrev pub RemembersIn : Conf → ℕ → Addr → ℕ → ℕ → Score → World → Type 0
RemembersIn conf rule source seconds now history w = Remembers rule source seconds now history (node_states conf (own_scope rule) source w.states) w.nodes

-- the history after a handshake of this state, where there is one
abbrev pub heard : ℕ → Addr → ℕ → Score → ℕ → Option State → Score
heard rule source seconds history now None = history
heard rule source seconds history now (Some s) = cond (is_of rule source s) (score_after seconds history now) history

pub states-touched : (conf : Conf) (scope : NodeScope) (source : Addr) (number : ℕ) (p : PacketView) (now : ℕ) (ss : List State)
    → node_states conf scope source (map (numbered_state_after number p now) ss) ≡ node_states conf scope source ss
states-touched conf scope source number p now ss = count-map (is_of_node conf scope source) (numbered_state_after number p now) (λ s. one s (s.number == number)) ss
  where
    one : (s : State) (b : Bool) → is_of_node conf scope source (cond b (state_after_packet p now s) s) ≡ is_of_node conf scope source s
    one s true = refl
    one s false = refl

-- a state that is found is counted
pub found-count : (conf : Conf) (rule : ℕ) (source : Addr) (p : PacketView) (w : World) (s : State) → state_for w p ≡ Some s → is_of rule source s ≡ true
    → 0 < node_states conf (own_scope rule) source w.states
found-count conf rule source p w s e f =
    count-found (λ (t : State). same_key (met_key p t) (key_of p)) (is_of_node conf (own_scope rule) source) s w.states (sym (found-by w p) ∙ e) f

-- what the handshake of a state does to the nodes
pub scored-in : (conf : Conf) (rule : ℕ) (source : Addr) (x : Rate) (now : ℕ) (history : Score) (count : ℕ) (nodes : List Node) (s : State) → IsRated conf rule x
    → (is_of rule source s ≡ true → 0 < count) → Remembers rule source x.seconds now history count nodes
    → Remembers rule source x.seconds now (heard rule source x.seconds history now (Some s)) count
    (nodes_scored nodes s.source now (node_scope_of conf s.rule.0) (options_of conf s.rule.0).max_src_conn_rate)
scored-in conf rule source x now history count nodes s i some r = go (is_of rule source s) refl
  where
    apart : (is_of rule source s ≡ false) → (other : NodeScope) → node_scope_of conf s.rule.0 ≡ Some other → other ≡ own_scope rule → s.source ≡ source → ⊥
    apart e other f g h =
        let scopes : node_scope_of conf s.rule.0 ≡ Some (own_scope rule) = f ∙ ap (λ (o : NodeScope). Some o) g in
        let rules : s.rule.0 ≡ rule = own-rule conf s.rule.0 rule scopes in
        let one : (s.rule.0 == rule) ≡ true = grind (arith, nat_tests) in
        let two : same_addr s.source source ≡ true = ap (λ (a : Addr). same_addr s.source a) (sym h) ∙ same_addr_self s.source in
        false≢true (sym e ∙ rw (one, two) refl)

    other : is_of rule source s ≡ false → (o : Option NodeScope) → node_scope_of conf s.rule.0 ≡ o → (rate : Option Rate)
        → Remembers rule source x.seconds now history count (nodes_scored nodes s.source now o rate)
    other e None f rate = r
    other e (Some scope) f None = r
    other e (Some scope) f (Some rate) = remembers-other rule source x.seconds now history count scope s.source rate.seconds nodes (apart e scope f) r

    this : is_of rule source s ≡ true
        → Remembers rule source x.seconds now (score_after x.seconds history now) count (nodes_scored nodes s.source now (node_scope_of conf s.rule.0) (options_of conf s.rule.0).max_src_conn_rate)
    this e =
        let p = both (s.rule.0 == rule) (same_addr s.source source) e in
        let rules : s.rule.0 ≡ rule = let f = p.0 in grind (arith, nat_tests) in
        let sources : s.source ≡ source = same_addr_true s.source source p.1 in
        let scope_is : node_scope_of conf s.rule.0 ≡ Some (own_scope rule) = ap (node_scope_of conf) rules ∙ scope-rated conf rule x i in
        let rate_is : (options_of conf s.rule.0).max_src_conn_rate ≡ Some x = ap (λ (k : ℕ). (options_of conf k).max_src_conn_rate) rules ∙ i.is in
        rw (scope_is, rate_is, sources) (remembers-this rule source x.seconds now history count nodes (some e) r)

    go : (b : Bool) → is_of rule source s ≡ b
        → Remembers rule source x.seconds now (cond b (score_after x.seconds history now) history) count (nodes_scored nodes s.source now (node_scope_of conf s.rule.0) (options_of conf s.rule.0).max_src_conn_rate)
    go true e = this e
    go false e = other e (node_scope_of conf s.rule.0) refl (options_of conf s.rule.0).max_src_conn_rate
