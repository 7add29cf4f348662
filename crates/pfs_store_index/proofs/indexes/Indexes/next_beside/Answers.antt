-- Answers of Indexes::next_beside: the index by source gives the next number of those beside the source, or none.
use Rattle.std.proofs.Common.{◌≡◌, ◌∙◌, ℕ, ap, slice_get, sym}
use Rattle.pfs_addr_values.specs.declared.addresses.Addr.{Addr}
use Rattle.pfs_addr_values.specs.declared.packets.Dir.{Dir}
use Rattle.pfs_store_contract.specs.Leaving.{is_beside}
use Rattle.pfs_store_records.specs.Records.{states_of}
use Rattle.pfs_store_index.specs.Filed.{filed_under}
use Rattle.pfs_store_index.specs.Holdings.{Holding}
use Rattle.pfs_store_index.specs.Rounds.{waiting_of}
use Rattle.pfs_store_index.proofs.SourcePairs.{beside-filed, filed_at, first-none, first-of-range, first-some, none-of-range, pairs-forward, set-pairs}
use Rattle.pfs_store_index.proofs.indexes.Indexes.next_beside.Goals as goal

-- those that are filed under the source are those that a flush takes for its own
asked : (d : Dir) (a : Addr) (above most : ℕ) (x y : Holding) → x ≡ y
    → slice_get (waiting_of (filed_at (filed_under x.config.profile d) a) above most x.states) 0 ≡ slice_get (waiting_of (is_beside y.config.profile d a) above most y.states) 0
asked d a above most x y e =
    (λ i. slice_get (waiting_of (beside-filed x.config.profile d a i) above most x.states) 0)
    ∙ ap (λ (h : Holding). slice_get (waiting_of (is_beside h.config.profile d a) above most h.states) 0) e

pub range-requires : goal.range-requires
range-requires g c = pairs-forward c.of-source.result c.args.above c.args.most c.requires.range

pub returns-in-Some : goal.returns-in-Some
returns-in-Some g c =
    let own = c.self.inside.config.profile in
    let xs = states_of c.self.inside.records in
    let paired = set-pairs c.profile.result own c.args.dir c.self.inside.filing c.pairs_on.result.now xs c.pairs_on.ensures c.profile.ensures (c.self.invariant.paired c.args.dir) in
    let f = first-of-range (filed_under own c.args.dir) c.args.source c.args.above c.args.most xs c.pairs_on.result.now _ _ _ c.of-source.result c.of-source.ensures.value c.of-source.ensures.addr paired c.in-Some.ensures.steps (c.range.ensures.in_range tt) in
    rw c.from.ensures
    (sym (first-some (filed_under own c.args.dir) c.args.source c.args.above c.args.most _ xs c.numbers_rise.ensures f)
    ∙ asked c.args.dir c.args.source c.args.above c.args.most _ _ c.self.view_is)

pub returns-in-None : goal.returns-in-None
returns-in-None g c =
    let own = c.self.inside.config.profile in
    let xs = states_of c.self.inside.records in
    let paired = set-pairs c.profile.result own c.args.dir c.self.inside.filing c.pairs_on.result.now xs c.pairs_on.ensures c.profile.ensures (c.self.invariant.paired c.args.dir) in
    sym (first-none (filed_under own c.args.dir) c.args.source c.args.above c.args.most xs
    (none-of-range (filed_under own c.args.dir) c.args.source c.args.above c.args.most xs c.pairs_on.result.now _ c.of-source.result c.of-source.ensures.value c.of-source.ensures.addr paired c.in-None.ensures.steps.0 (c.range.ensures.in_range tt)))
    ∙ asked c.args.dir c.args.source c.args.above c.args.most _ _ c.self.view_is
