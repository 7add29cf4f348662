-- The narrowest entry that covers an address, found by one noted length after another; and an entry more.
use Rattle.std.proofs.Common.{◌≡◌, ◌≢◌, ℕ, ◌+◌, ◌-◌, ◌<◌, ◌≤◌, ◌==◌, suc, Bool, true, false, not, ◌&&◌, ◌||◌, cond, nat_le, List, [], ◌∷◌, ◌++◌, Option, Some, None, refl, ap, sym, ◌∙◌, arith, subst, eq-eqb, eqb-true}
use Rattle.std.specs.Prelude.{All, is_some, min, replicate}
use Rattle.std.specs.Map.{lookup}
use Rattle.std.specs.Option.{option_map}
use Rattle.indexmap.specs.IndexMap.{insert_entry}
use Rattle.std.proofs.lemmas.List.Elements.{All-append, All-cons, All-head, All-nil, All-tail}
use Rattle.std.proofs.lemmas.List.{get_or-replicate}
use Rattle.std.proofs.lemmas.Bool.Decides.{nat_tests}
use Rattle.std.proofs.lemmas.Bool.{and_from, and_parts, cond-true, cond-false, false≢true}
use Rattle.pfs_addr_values.specs.declared.addresses.Addr.{Addr}
use Rattle.pfs_addr_values.specs.declared.addresses.Addr.TheVariants.{V4, V6}
use Rattle.pfs_addr_values.specs.Addresses.{IsAddr, same_family, width_of}
use Rattle.pfs_addr_values.specs.Prefixes.{Network, IsNetwork, cleared_addr, covers, network_of}
use Rattle.pfs_addr_values.proofs.PrefixLaws.{cleared_family, cleared_width, covers_true, network_covers, network_of_is_network}
use Rattle.pfs_eval.specs.Blooms.{may_have}
use Rattle.pfs_eval.specs.Covering.{narrower, narrowest}
use Rattle.pfs_eval.specs.Entries.{Entry, says_yes, answer_of, is_prefix_of, mark_at, holds_prefix}
use Rattle.pfs_eval.specs.Holdings.{AreEntriesKept}
use Rattle.pfs_eval.specs.Lengths.{AreLong, AreOn, IsLengthNoted, next}
use Rattle.pfs_eval.specs.Signs.{AreTrueWords, entry_sign}
use Rattle.pfs_eval.specs.declared.lengths.Lengths.{Lengths}
use Rattle.pfs_eval.specs.declared.entries.Mark.{Mark}
use Rattle.pfs_eval.proofs.Known.{NotesPrefix, known-added}

-- ---- the test of one prefix

-- a test that holds of exactly this prefix
pub record TellsOnly (test : Network → Bool) (p : Network) : Type 0 where
  pub same : (q : Network) → test q ≡ true → p ≡ q
  pub self : test p ≡ true

-- a prefix that covers an address is that address's prefix of its length
pub own_prefix : (n : ℕ) (a : Addr) (q : Network) → IsNetwork q → is_prefix_of a n q ≡ true → network_of a n ≡ q
own_prefix n a q h e =
    let bits : q.bits ≡ n = eqb-true q.bits n (and_parts (q.bits == n) (covers q a) e).0 in
    sym (covers_true q a h (and_parts (q.bits == n) (covers q a) e).1 ∙ ap (network_of a) bits)

same_bool : (b c : Bool) → (b ≡ true → c ≡ true) → (c ≡ true → b ≡ true) → b ≡ c
same_bool true c f g = sym (f refl)
same_bool false true f g = g refl
same_bool false false f g = refl

-- at prefixes, such a test asks for the length and whether the address is covered
pub tells-prefix : (test : Network → Bool) (a : Addr) (n : ℕ) (q : Network) → IsAddr a → IsNetwork q
    → TellsOnly test (network_of a n) → test q ≡ is_prefix_of a n q
tells-prefix test a n q h k t =
    same_bool (test q) (is_prefix_of a n q)
    (λ e. subst (λ r. is_prefix_of a n r ≡ true) (t.same q e)
    (let own = network_covers a n h in let same : (n == n) ≡ true = eq-eqb n n refl in grind arith))
    (λ e. subst (λ r. test r ≡ true) (own_prefix n a q k e) t.self)

same_choice : {X : Type 0} (b c : Bool) (x y z : X) → b ≡ c → y ≡ z → cond b x y ≡ cond c x z
same_choice b c x y z e f = rw (e, f) refl

-- so a look-up by it gives the mark of that entry
pub lookup-mark_at : (test : Network → Bool) (a : Addr) (n : ℕ) (es : List Entry) → IsAddr a
    → All (λ (x : Entry). IsNetwork x.0) es → TellsOnly test (network_of a n) → lookup test es ≡ mark_at es a n
lookup-mark_at test a n [] h k t = refl
lookup-mark_at test a n (x ∷ es) h k t =
    same_choice (test x.0) (is_prefix_of a n x.0) (Some x.1) (lookup test es) (mark_at es a n)
    (tells-prefix test a n x.0 h (All-head (λ (y : Entry). IsNetwork y.0) x es k) t)
    (lookup-mark_at test a n es h (All-tail (λ (y : Entry). IsNetwork y.0) x es k) t)

held_step : (b c : Bool) (o : Option Mark) (t : Bool) (m : Mark) → b ≡ c → is_some o ≡ t
    → is_some (cond b (Some m) o) ≡ (c || t)
held_step true true o t m e h = refl
held_step false false o t m e h = h
held_step true false o t m e h = cc
held_step false true o t m e h = cc

-- and finds one where there is one
pub lookup-holds_prefix : (test : Network → Bool) (a : Addr) (n : ℕ) (es : List Entry) → IsAddr a
    → All (λ (x : Entry). IsNetwork x.0) es → TellsOnly test (network_of a n)
    → is_some (lookup test es) ≡ holds_prefix es a n
lookup-holds_prefix test a n [] h k t = refl
lookup-holds_prefix test a n (x ∷ es) h k t =
    held_step (test x.0) (is_prefix_of a n x.0) (lookup test es) (holds_prefix es a n) x.1
    (tells-prefix test a n x.0 h (All-head (λ (y : Entry). IsNetwork y.0) x es k) t)
    (lookup-holds_prefix test a n es h (All-tail (λ (y : Entry). IsNetwork y.0) x es k) t)

-- there is a mark where there is an entry
pub mark-holds : (a : Addr) (n : ℕ) (es : List Entry) → is_some (mark_at es a n) ≡ holds_prefix es a n
mark-holds a n [] = refl
mark-holds a n (x ∷ es) = held_step (is_prefix_of a n x.0) (is_prefix_of a n x.0) (mark_at es a n) (holds_prefix es a n) x.1 refl (mark-holds a n es)

-- ---- the narrowest entry, from the longest prefix on

-- the entries that cover the address have fewer bits than this
unfoldable pub AreBelow : ℕ → Addr → List Entry → Type 0
AreBelow n a [] = Unit {0}
AreBelow n a (e ∷ es) = (covers e.0 a ≡ true → e.0.bits < n) × AreBelow n a es

some_same : {X : Type 0} {x y : X} → Some x ≡ Some y → x ≡ y
some_same h = cc

narrower-below : (x : Entry) (o : Option Entry) (n : ℕ) → x.0.bits < n → ((g : Entry) → o ≡ Some g → g.0.bits < n)
    → (narrower x o).0.bits < n
narrower-below x None n h k = h
narrower-below x (Some g) n h k = by (nat_le g.0.bits x.0.bits)
  where
    by : (b : Bool) → (cond b x g).0.bits < n
    by true = h
    by false = k g refl

-- the entry itself, where no other is longer
narrower-first : (x : Entry) (o : Option Entry) → ((g : Entry) → o ≡ Some g → g.0.bits ≤ x.0.bits) → narrower x o ≡ x
narrower-first x None k = refl
narrower-first x (Some g) k = let h = k g refl in cond-true (nat_le g.0.bits x.0.bits) x g (grind (arith, nat_tests))

narrower-other : (x g : Entry) → x.0.bits < g.0.bits → narrower x (Some g) ≡ g
narrower-other x g h = cond-false (nat_le g.0.bits x.0.bits) x g (grind (arith, nat_tests))

below_step : (x f : Entry) (n : ℕ) (b : Bool) (o : Option Entry) → (b ≡ true → x.0.bits < n)
    → ((g : Entry) → o ≡ Some g → g.0.bits < n) → cond b (Some (narrower x o)) o ≡ Some f → f.0.bits < n
below_step x f n true o h k e = let s = some_same e in rw (← s) (narrower-below x o n (h refl) k)
below_step x f n false o h k e = k f e

-- the narrowest is one of those
below-narrowest : (a : Addr) (n : ℕ) (es : List Entry) → AreBelow n a es → (f : Entry) → narrowest es a ≡ Some f
    → f.0.bits < n
unfolding AreBelow
below-narrowest a n [] h f e = cc
below-narrowest a n (x ∷ es) h f e = below_step x f n (covers x.0 a) (narrowest es a) h.0 (below-narrowest a n es h.1) e

not_here : (t : Bool) (m : Mark) (o : Option Mark) → cond t (Some m) o ≡ None → (t ≡ false) × (o ≡ None)
not_here true m o e = cc
not_here false m o e = (refl, e)

-- no entry has the prefix of length n, so those that cover are shorter
pub below-less : (a : Addr) (n : ℕ) (es : List Entry) → AreBelow (suc n) a es → mark_at es a n ≡ None → AreBelow n a es
unfolding AreBelow
below-less a n [] h e = tt
below-less a n (x ∷ es) h e =
    let k = not_here (is_prefix_of a n x.0) x.1 (mark_at es a n) e in
    (λ c. let other : x.0.bits ≢ n = (λ s. let t : (x.0.bits == n) ≡ true = eq-eqb x.0.bits n s in grind arith) in let less = h.0 c in omega arith, below-less a n es h.1 k.1)

-- an option holds an entry of so many bits with this mark
pub record IsEntryAt (o : Option Entry) (n : ℕ) (mark : Mark) : Type 0 where
  pub entry : Entry
  pub is : o ≡ Some entry
  pub bits : entry.0.bits ≡ n
  pub marked : entry.1 ≡ mark

found_step : (n : ℕ) (x : Entry) (mark : Mark) (o : Option Mark) (e : Option Entry) (t b c : Bool) → (x.0.bits == n) ≡ t
    → t && c ≡ b → (c ≡ true → x.0.bits < suc n) → ((g : Entry) → e ≡ Some g → g.0.bits < suc n)
    → (o ≡ Some mark → IsEntryAt e n mark) → cond b (Some x.1) o ≡ Some mark
    → IsEntryAt (cond c (Some (narrower x e)) e) n mark
found_step n x mark o e true b false s t h k i f = i (rw (← t) at f)
found_step n x mark o e false b false s t h k i f = i (rw (← t) at f)
found_step n x mark o e true b true s t h k i f =
    let bits : x.0.bits ≡ n = grind (arith, nat_tests) in
    record {
      entry = x;
      is = ap (λ y. Some y)
          (narrower-first x e (λ g p. let l = k g p in omega arith));
      bits = bits;
      marked = some_same (rw (← t) at f);
    }
found_step n x mark o e false b true s t h k i f =
    let w = i (rw (← t) at f) in
    let other : x.0.bits ≢ n = (λ r. false≢true (sym s ∙ eq-eqb x.0.bits n r)) in
    let less : x.0.bits < w.entry.0.bits = let l = h refl in let m = w.bits in omega arith in
    record {
      entry = w.entry;
      is = ap (λ y. Some y)
          (ap (narrower x) w.is ∙ narrower-other x w.entry less);
      bits = w.bits;
      marked = w.marked;
    }

-- the entry with the prefix of length n is the narrowest
pub found-narrowest : (a : Addr) (n : ℕ) (es : List Entry) (mark : Mark) → AreBelow (suc n) a es
    → mark_at es a n ≡ Some mark → IsEntryAt (narrowest es a) n mark
unfolding AreBelow
found-narrowest a n [] mark h e = cc
found-narrowest a n (x ∷ es) mark h e =
    found_step n x mark (mark_at es a n) (narrowest es a) (x.0.bits == n) (is_prefix_of a n x.0)
    (covers x.0 a) refl refl h.0 (below-narrowest a (suc n) es h.1) (found-narrowest a n es mark h.1) e

none_step : (b : Bool) (x : Entry) (o : Option Entry) → (b ≡ true → x.0.bits < 0) → o ≡ None
    → cond b (Some (narrower x o)) o ≡ None
none_step true x o h e = absurd (omega (arith, h refl))
none_step false x o h e = e

-- no entry covers the address
below-none : (a : Addr) (es : List Entry) → AreBelow 0 a es → narrowest es a ≡ None
unfolding AreBelow
below-none a [] h = refl
below-none a (x ∷ es) h = none_step (covers x.0 a) x (narrowest es a) h.0 (below-none a es h.1)

-- a prefix covers addresses of its own family
covers_family : (p : Network) (a : Addr) → covers p a ≡ true → same_family p.addr a ≡ true
unfolding covers
covers_family p a c = (and_parts (same_family p.addr a) _ c).0

same_width : (p b : Addr) → same_family p b ≡ true → width_of p ≡ width_of b
same_width (V4 x) (V4 y) f = refl
same_width (V6 x) (V6 y) f = refl
same_width (V4 x) (V6 y) f = absurd (cc f)
same_width (V6 x) (V4 y) f = absurd (cc f)

-- all prefixes have at most as many bits as the address
below-all : (a : Addr) (es : List Entry) → All (λ (x : Entry). IsNetwork x.0) es → AreBelow (width_of a + 1) a es
unfolding AreBelow
below-all a [] h = tt
below-all a (x ∷ es) h =
    let short = (All-head (λ (y : Entry). IsNetwork y.0) x es h).short in
    (λ c. let w = same_width x.0.addr a (covers_family x.0 a c) in omega arith, below-all a es (All-tail (λ (y : Entry). IsNetwork y.0) x es h))

suc_less : (b : ℕ) → 0 < b → b ≡ suc (b - 1)
suc_less b h = omega arith

-- ---- the look-up by one length after another

answer-found : (a : Addr) (b : ℕ) (es : List Entry) (mark : Mark) → 0 < b → AreBelow b a es
    → mark_at es a (b - 1) ≡ Some mark → not mark.negated ≡ answer_of es a
answer-found a b es mark h k e =
    let f = found-narrowest a (b - 1) es mark (subst (λ n. AreBelow n a es) (suc_less b h) k) e in
    sym (ap says_yes f.is ∙ ap (λ (m : Mark). not m.negated) f.marked)

answer-less : (a : Addr) (b : ℕ) (es : List Entry) → 0 < b → AreBelow b a es → mark_at es a (b - 1) ≡ None
    → AreBelow (b - 1) a es
answer-less a b es h k e = below-less a (b - 1) es (subst (λ n. AreBelow n a es) (suc_less b h) k) e

answer-none : (a : Addr) (b : ℕ) (es : List Entry) → b ≤ 0 → AreBelow b a es → false ≡ answer_of es a
answer-none a b es h k =
    let z : b ≡ 0 = omega arith in
    sym (ap says_yes (below-none a es (subst (λ n. AreBelow n a es) z k)))

-- where there is a sign there is a mark, and where there is none there is none
signed : (o : Option Mark) (s : Bool) → option_map (λ (m : Mark). m.negated) o ≡ Some s → (m : Mark) × (o ≡ Some m) × (m.negated ≡ s)
signed None s e = cc
signed (Some m) s e = (m, refl, some_same e)

unsigned : (o : Option Mark) → option_map (λ (m : Mark). m.negated) o ≡ None → o ≡ None
unsigned None e = refl
unsigned (Some m) e = cc

-- the same, by how many bits a length leaves out

pub hidden-found : (a : Addr) (w hidden : ℕ) (es : List Entry) (s : Bool) → w ≡ width_of a → hidden ≤ w
    → AreBelow (width_of a + 1 - hidden) a es → entry_sign es a (w - hidden) ≡ Some s → not s ≡ answer_of es a
hidden-found a w hidden es s is within k e =
    let bits : w - hidden ≡ width_of a + 1 - hidden - 1 = omega arith in
    let m = signed (mark_at es a (w - hidden)) s e in
    ap not (sym m.2)
    ∙ answer-found a (width_of a + 1 - hidden) es m.0 (omega arith) k (subst (λ n. mark_at es a n ≡ Some m.0) bits m.1)

pub hidden-less : (a : Addr) (w hidden : ℕ) (es : List Entry) → w ≡ width_of a → hidden ≤ w
    → AreBelow (width_of a + 1 - hidden) a es → entry_sign es a (w - hidden) ≡ None → AreBelow (width_of a + 1 - (hidden + 1)) a es
hidden-less a w hidden es is within k s =
    let e = unsigned (mark_at es a (w - hidden)) s in
    let bits : w - hidden ≡ width_of a + 1 - hidden - 1 = omega arith in
    let fewer : width_of a + 1 - hidden - 1 ≡ width_of a + 1 - (hidden + 1) = omega arith in
    subst (λ n. AreBelow n a es) fewer
    (answer-less a (width_of a + 1 - hidden) es (omega arith) k (subst (λ n. mark_at es a n ≡ None) bits e))

pub hidden-none : (a : Addr) (w hidden : ℕ) (es : List Entry) → w ≡ width_of a → w < hidden
    → AreBelow (width_of a + 1 - hidden) a es → false ≡ answer_of es a
hidden-none a w hidden es is past k = answer-none a (width_of a + 1 - hidden) es (omega arith) k

pub hidden-all : (a : Addr) (es : List Entry) → All (λ (x : Entry). IsNetwork x.0) es → AreBelow (width_of a + 1 - 0) a es
hidden-all a es h =
    let whole : width_of a + 1 ≡ width_of a + 1 - 0 = omega arith in
    subst (λ n. AreBelow n a es) whole (below-all a es h)

-- ---- one more entry

-- an entry that is not there goes last
pub inserted-last : (eq : Network → Network → Bool) (p : Network) (a : Addr) (n : ℕ) (mark : Mark) (es : List Entry)
    → p ≡ network_of a n → IsAddr a → All (λ (x : Entry). IsNetwork x.0) es → TellsOnly (eq p) p
    → holds_prefix es a n ≡ false
    → insert_entry eq es p mark ≡ es ++ (network_of a n, mark) ∷ []
inserted-last eq p a n mark [] is h k t e = ap (λ (q : Network). (q, mark) ∷ []) is
inserted-last eq p a n mark (x ∷ es) is h k t e =
    let here : eq p x.0 ≡ is_prefix_of a n x.0 = tells-prefix (eq p) a n x.0 h (All-head (λ (y : Entry). IsNetwork y.0) x es k) (subst (TellsOnly (eq p)) is t) in
    let other : eq p x.0 ≡ false = grind arith in
    let rest : holds_prefix es a n ≡ false = grind arith in
    cond-false (eq p x.0) _ _ other
    ∙ ap (λ xs. x ∷ xs)
    (inserted-last eq p a n mark es is h (All-tail (λ (y : Entry). IsNetwork y.0) x es k) t rest)

-- all entries are prefixes, as before
pub all-added : (es : List Entry) (a : Addr) (n : ℕ) (mark : Mark) → All (λ (x : Entry). IsNetwork x.0) es → IsAddr a
    → n ≤ width_of a → All (λ (x : Entry). IsNetwork x.0) (es ++ (network_of a n, mark) ∷ [])
all-added es a n mark h k short =
    let P : Entry → Type 0 = λ x. IsNetwork x.0 in
    All-append P es ((network_of a n, mark) ∷ []) h (All-cons P (network_of a n, mark) [] (network_of_is_network a n k short) (All-nil P))

-- ---- the lengths that entries have

-- addresses of one family have the same lengths
same_lengths : (l : Lengths) (p a : Addr) (n : ℕ) → same_family p a ≡ true → next l p n ≡ next l a n
same_lengths l (V4 x) (V4 y) n f = refl
same_lengths l (V6 x) (V6 y) n f = refl
same_lengths l (V4 x) (V6 y) n f = absurd (cc f)
same_lengths l (V6 x) (V4 y) n f = absurd (cc f)

-- what covers an address and leaves out so many bits or more leaves out no fewer than are next
pub next-below : (l : Lengths) (a : Addr) (n : ℕ) (es : List Entry) → All (λ (x : Entry). IsLengthNoted l x.0) es
    → AreBelow (width_of a + 1 - n) a es → AreBelow (width_of a + 1 - next l a n) a es
unfolding AreBelow
next-below l a n [] h k = tt
next-below l a n (x ∷ es) h k =
    let P : Entry → Type 0 = λ y. IsLengthNoted l y.0 in (
      λ c. let family = covers_family x.0 a c in
          let w = same_width x.0.addr a family in
          let same = same_lengths l x.0.addr a n family in
          let fewer = k.0 c in
          let more = All-head P x es h n (omega arith) in omega arith,
      next-below l a n es (All-tail P x es h) k.1,
    )

none_next : (a : Addr) (n : ℕ) → n ≤ width_of a + 1
    → next (record { inet = replicate 34 33; inet6 = replicate 130 129 }) a n ≡ width_of a + 1
none_next (V4 x) n h = get_or-replicate 34 n 33 0 (omega arith)
none_next (V6 x) n h = get_or-replicate 130 n 129 0 (omega arith)

-- without an entry no length is noted
pub kept-none : (words signs : List ℕ) → AreTrueWords signs [] → AreEntriesKept [] (record { inet = replicate 34 33; inet6 = replicate 130 129 }) words signs
kept-none words signs t = record {
  networks = All-nil (λ (x : Entry). IsNetwork x.0);
  long = (refl, refl);
  on = record {
    least = (λ a n h. let z = none_next a n h in omega arith);
    most = (λ a n h. let z = none_next a n h in omega arith);
  };
  noted = All-nil (λ (x : Entry). IsLengthNoted (record { inet = replicate 34 33; inet6 = replicate 130 129 }) x.0);
  known = All-nil (λ (x : Entry). may_have words x.0.addr x.0.bits ≡ true);
  told = t;
}

-- that a prefix leaves out so many bits is noted, for the family of an address
pub record Notes (old new : Lengths) (b : Addr) (hidden : ℕ) : Type 0 where
  pub at : (a : Addr) (n : ℕ) → n ≤ width_of a + 1
      → next new a n ≡ cond (same_family a b && nat_le n hidden) (min (next old a n) hidden) (next old a n)

-- the number at a place afterwards is at least that place, and at most the number that was there
noted_on : (old new hidden n : ℕ) (s : Bool) → new ≡ cond (s && nat_le n hidden) (min old hidden) old → n ≤ old
    → (n ≤ new) × (new ≤ old)
noted_on old new hidden n s e h = by (s && nat_le n hidden) refl
  where
    by : (b : Bool) → (s && nat_le n hidden) ≡ b → (n ≤ new) × (new ≤ old)
    by true t =
        let f : new ≡ min old hidden = e ∙ cond-true (s && nat_le n hidden) _ _ t in
        let within : nat_le n hidden ≡ true = (and_parts s (nat_le n hidden) t).1 in
        let l : n ≤ hidden = grind (arith, nat_tests) in
        (omega arith, omega arith)
    by false t = let f : new ≡ old = e ∙ cond-false (s && nat_le n hidden) _ _ t in (omega arith, omega arith)

new_noted : (old new hidden n : ℕ) (s : Bool) → new ≡ cond (s && nat_le n hidden) (min old hidden) old → s ≡ true → n ≤ hidden
    → new ≤ hidden
new_noted old new hidden n s e is h =
    let within : nat_le n hidden ≡ true = grind (arith, nat_tests) in
    let f : new ≡ min old hidden = e ∙ cond-true (s && nat_le n hidden) _ _ (and_from _ _ is within) in
    omega arith

-- what was noted stays so
still_noted : (old new : Lengths) (b : Addr) (hidden : ℕ) (p : Network) → Notes old new b hidden → AreOn old → IsLengthNoted old p → IsLengthNoted new p
still_noted old new b hidden p notes on h n few =
    let within : n ≤ width_of p.addr + 1 = omega arith in
    let less = (noted_on (next old p.addr n) (next new p.addr n) hidden n (same_family p.addr b) (notes.at p.addr n within) (on.least p.addr n within)).1 in
    let before = h n few in
    omega arith

-- one more entry, with its length noted
pub kept-added : (es : List Entry) (old new : Lengths) (words more signs told : List ℕ) (a : Addr) (n hidden : ℕ) (mark : Mark) → AreEntriesKept es old words signs
    → IsAddr a → n ≤ width_of a → hidden ≡ width_of a - n → AreLong new → Notes old new a hidden → NotesPrefix words more a n
    → AreTrueWords told (es ++ (network_of a n, mark) ∷ []) → AreEntriesKept (es ++ (network_of a n, mark) ∷ []) new more told
kept-added es old new words more signs told a n hidden mark h k short rest long notes knows tells =
    let P : Entry → Type 0 = λ x. IsLengthNoted new x.0 in
    let wide = cleared_width n a in
    record {
      networks = all-added es a n mark h.networks k short;
      long = long;
      on = record {
        least = (λ b m l. (noted_on (next old b m) (next new b m) hidden m (same_family b a) (notes.at b m l) (h.on.least b m l)).0);
        most = (λ b m l. let less = (noted_on (next old b m) (next new b m) hidden m (same_family b a) (notes.at b m l) (h.on.least b m l)).1 in
            let most = h.on.most b m l in omega arith);
      };
      noted =
          All-append P es ((network_of a n, mark) ∷ [])
          (λ i d l m few. still_noted old new a hidden _ notes h.on (h.noted i d l) m few)
          (All-cons P (network_of a n, mark) []
          (λ m few. let fewer = new_noted (next old (cleared_addr n a) m) (next new (cleared_addr n a) m) hidden m (same_family (cleared_addr n a) a) (notes.at (cleared_addr n a) m (omega arith)) (cleared_family n a) (omega arith) in omega arith) (All-nil P));
      known = known-added es words more a n mark k h.known knows;
      told = tells;
    }
