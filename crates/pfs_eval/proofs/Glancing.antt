-- What a visit reads of an item tells the same as the item.
use Rattle.std.proofs.Common.{◌≡◌, ℕ, ◌<◌, ◌≤◌, ◌==◌, min, suc, zero, Bool, true, false, cond, not, List, [], ◌∷◌, ◌++◌, length, slice_get, get_or, Option, Some, None, option_map, unwrap_or, refl, ap, sym, subst, ◌∙◌, ◌⊎◌, inl, inr, arith}
use Rattle.std.specs.Bool.{one_answer}
use Rattle.std.specs.Int.{from_le_bytes, to_le_bytes, w64}
use Rattle.std.specs.Str.{bytes_eq}
use Rattle.std.proofs.lemmas.Bool.Decides.{Decides-eqb, nat_tests}
use Rattle.std.proofs.lemmas.List.{ext_get_or}
use Rattle.std.proofs.lemmas.Option.{slice_get_read}
use Rattle.std.proofs.lemmas.Slice.Eq.{bytes_eq-Decides}
use Rattle.pfs_addr_values.specs.declared.addresses.Addr.{Addr}
use Rattle.pfs_addr_values.specs.declared.addresses.Addr.TheVariants.{V4, V6}
use Rattle.pfs_addr_values.specs.Prefixes.{Network, covers}
use Rattle.pfs_conf_values.specs.declared.filters.Host.{Host}
use Rattle.pfs_conf_values.specs.declared.filters.Host.TheVariants as host
use Rattle.pfs_conf_values.specs.declared.filters.Interface.{Interface}
use Rattle.pfs_conf_values.specs.declared.filters.TableNo.{TableNo}
use Rattle.pfs_eval.specs.Entries.{Entry}
use Rattle.pfs_eval.specs.Glances.{AreGlances, IsGlance, IsOnKept, IsWordOf, inet_holds, is_short, name_bytes, near_host, near_prefix}
use Rattle.pfs_addr_values.specs.Packets.{PacketView}
use Rattle.pfs_eval.specs.Asking.{made_by, marked_by, translation_at_once}
use Rattle.pfs_eval.specs.Lines.{is_matched, packet_after}
use Rattle.pfs_eval.specs.Translating.{TakenKeys, is_behind_nat, nat_by, nat_port, rdr_by, sent_from, translated}
use Rattle.pfs_conf_values.specs.declared.translations.NatTo.{NatTo}
use Rattle.pfs_conf_values.specs.declared.translations.RdrTo.{RdrTo}
use Rattle.pfs_conf_values.specs.declared.translations.Translation.{Translation}
use Rattle.pfs_eval.specs.declared.comparing.Parameter.{Parameter}
use Rattle.pfs_eval.specs.Matching.{host_holds, interface_holds, prefix_holds, turned_if}
use Rattle.pfs_eval.specs.declared.glances.Glance.{Glance}
use Rattle.pfs_eval.specs.declared.glances.Near.{Near}
use Rattle.pfs_eval.specs.declared.glances.NearKind.TheVariants as near
use Rattle.pfs_eval.specs.declared.glances.OnKind.{OnKind}
use Rattle.pfs_eval.specs.declared.glances.OnKind.TheVariants as on
use Rattle.pfs_eval.specs.declared.lines.Line.{Line}
use Rattle.pfs_eval.specs.declared.walks.RuleWalk.{RuleWalk}
use Rattle.pfs_eval.proofs.LinesMade.{get-more}
use Rattle.pfs_eval.proofs.Bodies.{some_at}
use Rattle.pfs_eval.proofs.Paths.{some_same}
use Rattle.pfs_eval.proofs.Visiting.{IsEnd}

-- ---- a name

-- a name of at most seven bytes is the one that its eight bytes say
as_long : (m n : ℕ) → m ≤ 7 → min m 255 ≡ min n 255 → m ≡ n
as_long m n s e = omega (arith, s, e)

same_name : (x y : List ℕ) → length x ≤ 7 → name_bytes x ≡ name_bytes y → x ≡ y
same_name x y s e = ext_get_or 0 x y (as_long (length x) (length y) s (ap (λ zs. get_or zs 7 0) e)) (λ i l. by i (omega (arith, s, l)))
  where
    by : (i : ℕ) → i < 7 → get_or x i 0 ≡ get_or y i 0
    by zero l = ap (λ zs. get_or zs 0 0) e
    by (suc zero) l = ap (λ zs. get_or zs 1 0) e
    by (suc (suc zero)) l = ap (λ zs. get_or zs 2 0) e
    by (suc (suc (suc zero))) l = ap (λ zs. get_or zs 3 0) e
    by (suc (suc (suc (suc zero)))) l = ap (λ zs. get_or zs 4 0) e
    by (suc (suc (suc (suc (suc zero))))) l = ap (λ zs. get_or zs 5 0) e
    by (suc (suc (suc (suc (suc (suc zero)))))) l = ap (λ zs. get_or zs 6 0) e
    by (suc (suc (suc (suc (suc (suc (suc i))))))) l = absurd (omega (arith, l))

same_word : (x y : List ℕ) (n m : ℕ) → length x ≤ 7 → IsWordOf x n → IsWordOf y m → (n == m) ≡ bytes_eq x y
same_word x y n m s e f = one_answer (n == m) (bytes_eq x y) (there, back) (bytes_eq-Decides x y)
  where
    there : (n == m) ≡ true → x ≡ y
    there t = let same : n ≡ m = (Decides-eqb n m).0 t in same_name x y s (sym e.bytes ∙ (ap (to_le_bytes w64) same ∙ f.bytes))

    back : x ≡ y → (n == m) ≡ true
    back t = (Decides-eqb n m).1 (e.is ∙ (ap (λ z. from_le_bytes w64 (name_bytes z)) t ∙ sym f.is))

-- an interface that is kept by its word alone has a short name
short_this : (b c : Bool) → on.This ≡ cond b (cond c on.Other on.This) on.Far → (b ≡ true) × (c ≡ false)
short_this true true e = cc
short_this true false e = (refl, refl)
short_this false c e = cc

short_other : (b c : Bool) → on.Other ≡ cond b (cond c on.Other on.This) on.Far → (b ≡ true) × (c ≡ true)
short_other true true e = (refl, refl)
short_other true false e = cc
short_other false c e = cc

pub is-this : (o : Option Interface) (kind : OnKind) (n m : ℕ) (name : List ℕ) → kind ≡ on.This → IsOnKept o kind n → IsWordOf name m
    → (n == m) ≡ interface_holds o name
is-this None kind n m name e k w = cc
is-this (Some i) kind n m name e k w =
    let s = short_this (is_short i.name) i.negated (sym e ∙ k.0) in
    same_word i.name name n m (grind (arith, nat_tests, s.0)) k.1 w ∙ ap (λ b. turned_if b (bytes_eq i.name name)) (sym s.1)

pub is-other : (o : Option Interface) (kind : OnKind) (n m : ℕ) (name : List ℕ) → kind ≡ on.Other → IsOnKept o kind n → IsWordOf name m
    → not (n == m) ≡ interface_holds o name
is-other None kind n m name e k w = cc
is-other (Some i) kind n m name e k w =
    let s = short_other (is_short i.name) i.negated (sym e ∙ k.0) in
    ap not (same_word i.name name n m (grind (arith, nat_tests, s.0)) k.1 w) ∙ ap (λ b. turned_if b (bytes_eq i.name name)) (sym s.1)

-- ---- a host

covered : (p : Network) (negated : Bool) (bytes : List ℕ) (a : Addr) → p.addr ≡ V4 bytes
    → inet_holds (near_prefix (V4 bytes) p.bits negated) a ≡ prefix_holds p negated a
unfolding covers
covered p negated bytes (V4 other) e = rw e refl
covered p negated bytes (V6 other) e = rw e refl

pub is-inet : (tables : List (List Entry)) (h : Host TableNo) (n : Near) (a : Addr) (b : Bool) → n.kind ≡ near.Inet → n ≡ near_host h
    → b ≡ inet_holds n a → b ≡ host_holds tables h a
is-inet tables host.Any n a b k e f = cc
is-inet tables (host.Table t negated) n a b k e f = cc
is-inet tables (host.Prefix p negated) n a b k e f = by p.addr refl
  where
    by : (x : Addr) → p.addr ≡ x → b ≡ prefix_holds p negated a
    by (V4 bytes) at =
        let kept : n ≡ near_prefix (V4 bytes) p.bits negated = e ∙ ap (λ x. near_prefix x p.bits negated) at in
        f ∙ (ap (λ m. inet_holds m a) kept ∙ covered p negated bytes a at)
    by (V6 bytes) at = let kept : n ≡ near_prefix (V6 bytes) p.bits negated = e ∙ ap (λ x. near_prefix x p.bits negated) at in cc

-- ---- what is kept of all lines

pub glances-none : (lines : List Line) (glances : List Glance) → glances ≡ [] → (p : ℕ) (line : Line) (g : Glance) → slice_get lines p ≡ Some line
    → slice_get glances p ≡ Some g → IsGlance line g
glances-none lines glances e p line g at there = cc

is_glance : (line other : Line) (g : Glance) → other ≡ line → IsGlance line g → IsGlance other g
is_glance line other g e h = subst (λ l. IsGlance l g) (sym e) h

pub glances-more : (lines : List Line) (glances new : List Glance) (p : ℕ) (line : Line) (g : Glance) → new ≡ glances ++ g ∷ []
    → length glances ≡ p → slice_get lines p ≡ Some line → IsGlance line g
    → ((q : ℕ) (l : Line) (k : Glance) → slice_get lines q ≡ Some l → slice_get glances q ≡ Some k → IsGlance l k)
    → (q : ℕ) (l : Line) (k : Glance) → slice_get lines q ≡ Some l → slice_get new q ≡ Some k → IsGlance l k
glances-more lines glances new p line g e long at is each q l k here there = by (get-more glances g k q (rw e at there))
  where
    by : (slice_get glances q ≡ Some k) ⊎ ((q ≡ length glances) × (k ≡ g)) → IsGlance l k
    by (inl old) = each q l k here old
    by (inr last) =
        let same : l ≡ line = some_same (sym here ∙ (ap (slice_get lines) (last.0 ∙ long) ∙ at)) in
        subst (λ x. IsGlance l x) (sym last.1) (is_glance line l g same is)

-- ---- one of them

-- what a book keeps, as a loop reads it
pub glances_of : {kept lines : List Line} {held glances : List Glance} → AreGlances kept held → lines ≡ kept → glances ≡ held
    → AreGlances lines glances
glances_of {kept} {lines} {held} {glances} a e f = subst (λ gs. AreGlances lines gs) (sym f) (subst (λ ls. AreGlances ls held) (sym e) a)

-- ---- the interface of a packet, which no rule changes

abbrev IsOnIn : List ℕ → Option PacketView → Type 0
IsOnIn name None = name ≡ name
IsOnIn name (Some p) = p.ifname ≡ name

port_on : (name : List ℕ) (p : PacketView) (addr : Addr) (port : Option ℕ) → p.ifname ≡ name → IsOnIn name (option_map (sent_from p addr) port)
port_on name p addr None e = refl
port_on name p addr (Some n) e = e

nat_on : (taken : TakenKeys) (n : Option NatTo) (p : PacketView) → IsOnIn p.ifname (nat_by taken n p)
unfolding nat_by
nat_on taken None p = refl
nat_on taken (Some n) p = by (is_behind_nat n p)
  where
    by : (b : Bool) → IsOnIn p.ifname (cond b (Some p) (option_map (sent_from p n.addr) (nat_port taken n p)))
    by true = refl
    by false = port_on p.ifname p n.addr (nat_port taken n p) refl

rdr_on : (r : Option RdrTo) (p : PacketView) → (rdr_by r p).ifname ≡ p.ifname
unfolding rdr_by
rdr_on None p = refl
rdr_on (Some r) p = refl

both_on : (r : Option RdrTo) (q : PacketView) (o : Option PacketView) → IsOnIn q.ifname o → (unwrap_or (option_map (rdr_by r) o) q).ifname ≡ q.ifname
both_on r q None h = refl
both_on r q (Some p) h = rdr_on r p ∙ h

translated_on : (taken : TakenKeys) (t : Translation) (q : PacketView) → (unwrap_or (translated taken t q) q).ifname ≡ q.ifname
unfolding translated
translated_on taken t q = both_on t.rdr_to q (nat_by taken t.nat_to q) (nat_on taken t.nat_to q)

-- a visit leaves a packet on its interface
pub same-name : (taken : TakenKeys) (p : PacketView) (line : Line) (failed : Option Parameter) → (packet_after taken p line failed).ifname ≡ p.ifname
same-name taken p line (Some k) = refl
same-name taken p line None = by (is_matched line p)
  where
    by : (b : Bool) → (cond b (made_by taken line.given line.item.what p) p).ifname ≡ p.ifname
    by true = translated_on taken (translation_at_once line.item.what) (marked_by line.given p)
    by false = refl

-- ---- one of them

-- what a loop reads at a place is kept of the line that it reads there
pub glance-read : {kept lines : List Line} {held glances : List Glance} (p : ℕ) (line : Line) (g : Glance) → AreGlances kept held → lines ≡ kept
    → glances ≡ held → p < length glances → line ≡ get_or lines p line → g ≡ get_or glances p g → IsGlance line g
glance-read {kept} {lines} {held} {glances} p line g a e f near at there =
    let k : AreGlances lines glances = glances_of a e f in
    k.each p line g (slice_get_read lines _ p _ refl (omega (arith, near, k.long)) at) (slice_get_read glances _ p _ refl near there)

-- an item that is deep enough, and one that is not
pub deep-enough : (glances : List Glance) (p stop : ℕ) (line : Line) (g : Glance) → IsGlance line g → g ≡ get_or glances p g
    → stop ≤ (get_or glances p g).depth → stop ≤ line.item.depth
deep-enough glances p stop line g k e h = subst (λ d. stop ≤ d) (ap (λ (x : Glance). x.depth) (sym e) ∙ k.depth) h

pub ends-there : {kept lines : List Line} {held glances : List Glance} (w : RuleWalk) (g : Glance) → AreGlances kept held → lines ≡ kept
    → glances ≡ held → w.place < length glances → g ≡ get_or glances w.place g → (get_or glances w.place g).depth < w.stop_depth → IsEnd lines w
ends-there {kept} {lines} {held} {glances} w g a e f near there h =
    let k : AreGlances lines glances = glances_of a e f in
    let line = some_at lines w.place (omega (arith, near, k.long)) in
    let is = k.each w.place line.0 g line.1 (slice_get_read glances _ w.place _ refl near there) in
    inr (line.0, line.1, subst (λ d. d < w.stop_depth) (ap (λ (x : Glance). x.depth) (sym there) ∙ is.depth) h)
