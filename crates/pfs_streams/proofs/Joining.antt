-- The two parts of a joined text, a byte at a time, and what is read on by chunks.
use Rattle.std.proofs.Common.{◌≡◌, ◌≢◌, ◌≤◌, ◌<◌, ◌+◌, ◌-◌, ◌++◌, ◌∙◌, ℕ, suc, List, [], ◌∷◌, length, take, drop, Option, Some, None, Bool, true, false, nat_eq, slice_index_or, refl, sym, ap, subst, arith, append_assoc, length-append}
use Rattle.std.specs.Prelude.{◌^◌, if◌then◌else◌}
use Rattle.std.proofs.lemmas.List.{append-nil}
use Rattle.std.proofs.lemmas.Bool.{eqb-true, eqb-false}
use Rattle.std.proofs.Math.Seq.{take-append_seam, drop-append_seam}
use Rattle.std.specs.Io.KnownBytes.{Consumes, IsAtEnd}
use Rattle.pfs_streams.specs.declared.splitting.LinePlace.{LinePlace}
use Rattle.pfs_streams.specs.declared.splitting.LinePlace.TheVariants as place
use Rattle.pfs_streams.specs.RulesKept.{KeepsEnough, rules_limit}
use Rattle.pfs_streams.specs.Joined.{split_joined}
use Rattle.pfs_streams.proofs.SplitLaws.{split-lines}
use Rattle.pfs_streams.specs.Places.{Parts, ahead, split_from, IsPastSplit, pending, place_after, place_over, split_at, split_mark, settled_bytes, ends_split}

pub ahead-ahead : (a b : List ℕ) (p : Parts) → ahead a (ahead b p) ≡ ahead (a ++ b) p
ahead-ahead a b p = ap (λ (l : List ℕ). (l, p.1)) (sym (append_assoc a b p.0))

-- a byte: what it settles of the rules goes ahead of the split of the rest
abbrev Steps : LinePlace → ℕ → List ℕ → Type 0
Steps p c ys = (s : List ℕ) × (split_at p (c ∷ ys) ≡ ahead s (split_at (place_after p c) ys)) × (pending p ++ c ∷ [] ≡ s ++ pending (place_after p c))

steps-end : (p : LinePlace) (ys : List ℕ) → p ≢ place.Percents → Steps p 10 ys
unfolding split_from
steps-end place.Start ys h = (10 ∷ [], refl, refl)
steps-end place.Percent ys h = (37 ∷ 10 ∷ [], refl, refl)
steps-end place.Percents ys h = absurd (h refl)
steps-end place.Inside ys h = (10 ∷ [], refl, refl)

steps-percent : (p : LinePlace) (ys : List ℕ) → Steps p 37 ys
unfolding split_from
steps-percent place.Start ys = ([], refl, refl)
steps-percent place.Percent ys = ([], refl, refl)
steps-percent place.Percents ys = (37 ∷ 37 ∷ 37 ∷ [], refl, refl)
steps-percent place.Inside ys = (37 ∷ [], refl, refl)

steps-other : (p : LinePlace) (c : ℕ) (ys : List ℕ) → nat_eq c 10 ≡ false → nat_eq c 37 ≡ false → Steps p c ys
unfolding split_from
steps-other place.Start c ys e h = (c ∷ [], rw (e, h) refl, rw (e, h) refl)
steps-other place.Percent c ys e h = (37 ∷ c ∷ [], rw (e, h) refl, rw (e, h) refl)
steps-other place.Percents c ys e h = (37 ∷ 37 ∷ c ∷ [], rw (e, e) refl, rw e refl)
steps-other place.Inside c ys e h = (c ∷ [], rw e refl, rw e refl)

steps-by : (p : LinePlace) (c : ℕ) (ys : List ℕ) → (p ≡ place.Percents → c ≡ 10 → ⊥) → (e h : Bool) → nat_eq c 10 ≡ e → nat_eq c 37 ≡ h → Steps p c ys
steps-by p c ys not_split true h q r =
    let w : c ≡ 10 = eqb-true c 10 q in
    let k : p ≢ place.Percents = λ is. not_split is w in
    rw w (steps-end p ys k)
steps-by p c ys not_split false true q r = let w : c ≡ 37 = eqb-true c 37 r in rw w (steps-percent p ys)
steps-by p c ys not_split false false q r = steps-other p c ys q r

steps : (p : LinePlace) (c : ℕ) (ys : List ℕ) → (p ≡ place.Percents → c ≡ 10 → ⊥) → Steps p c ys
steps p c ys not_split = steps-by p c ys not_split (nat_eq c 10) (nat_eq c 37) refl refl

-- the line feed of a split line
split-line : (ys : List ℕ) → split_at place.Percents (10 ∷ ys) ≡ ([], ys)
unfolding split_from
split-line ys = refl

-- the end of the text: a split line needs no line feed there
split-end : (p : LinePlace) → split_at p [] ≡ (settled_bytes p, [])
unfolding split_from
split-end place.Start = refl
split-end place.Percent = refl
split-end place.Percents = refl
split-end place.Inside = refl

pending-settled : (p : LinePlace) → pending p ≡ settled_bytes p ++ split_mark p
pending-settled place.Start = refl
pending-settled place.Percent = refl
pending-settled place.Percents = refl
pending-settled place.Inside = refl

pub splits-at : (p : LinePlace) (c : ℕ) → ends_split p c ≡ true → (p ≡ place.Percents) × (c ≡ 10)
splits-at place.Start c e = cc
splits-at place.Percent c e = cc
splits-at place.Percents c e = (refl, eqb-true c 10 e)
splits-at place.Inside c e = cc

pub splits-not : (p : LinePlace) (c : ℕ) → ends_split p c ≡ false → p ≡ place.Percents → c ≡ 10 → ⊥
splits-not place.Start c e is ten = cc
splits-not place.Percent c e is ten = cc
splits-not place.Percents c e is ten = eqb-false c 10 e ten
splits-not place.Inside c e is ten = cc

-- bytes in a row: what they settle of the rules goes ahead, or what follows them is of the trace
abbrev pub Over : LinePlace → List ℕ → List ℕ → Option LinePlace → Type 0
Over p bs ys (Some q) = (s : List ℕ) × (split_at p (bs ++ ys) ≡ ahead s (split_at q ys))
Over p bs ys None = (k : ℕ) × (ys ≡ drop k (split_at p (bs ++ ys)).1)

over-ahead : (p q : LinePlace) (c : ℕ) (cs ys s : List ℕ) (o : Option LinePlace) → split_at p (c ∷ (cs ++ ys)) ≡ ahead s (split_at q (cs ++ ys)) → Over q cs ys o → Over p (c ∷ cs) ys o
over-ahead p q c cs ys s (Some r) split (t, rest) = (s ++ t, split ∙ (ap (ahead s) rest ∙ ahead-ahead s t (split_at r ys)))
over-ahead p q c cs ys s None split (k, rest) = (k, rest ∙ sym (ap (λ (w : Parts). drop k w.1) split))

pub over : (p : LinePlace) (bs ys : List ℕ) → Over p bs ys (place_over p bs)
unfolding place_over
over p [] ys = ([], refl)
over p (c ∷ cs) ys = by (ends_split p c) refl (over (place_after p c) cs ys)
  where
    by : (b : Bool) → ends_split p c ≡ b → Over (place_after p c) cs ys (place_over (place_after p c) cs)
        → Over p (c ∷ cs) ys (if b then None else place_over (place_after p c) cs)
    by true ends rest =
        let (is, ten) = splits-at p c ends in
        let whole : split_at p (c ∷ (cs ++ ys)) ≡ ([], cs ++ ys) = rw (is, ten) (split-line (cs ++ ys)) in
        (length cs, sym (ap (λ (w : Parts). drop (length cs) w.1) whole ∙ drop-append_seam cs ys))
    by false goes_on rest =
        let (s, split, bytes) = steps p c (cs ++ ys) (splits-not p c goes_on) in
        over-ahead p (place_after p c) c cs ys s (place_over (place_after p c) cs) split rest

-- what is known of a joined text after some of its bytes
pub record Joins (xs : List ℕ) (now : Option (List ℕ)) (kept : List ℕ) (p : LinePlace) : Type 0 where
  pub rules : List ℕ
  pub left : List ℕ
  pub unread : now ≡ Some left
  pub few : length left ≤ length xs
  pub split : split_joined xs ≡ ahead rules (split_at p left)
  pub all : kept ≡ rules ++ pending p

pub joins-start : (xs : List ℕ) (now : Option (List ℕ)) (kept : List ℕ) → now ≡ Some xs → kept ≡ [] → Joins xs now kept place.Start
joins-start xs now kept e none = record {
  rules = [];
  left = xs;
  unread = e;
  few = omega arith;
  split = split-lines xs;
  all = none;
}

-- what is kept, without the split line's bytes
kept-end : (rules tail kept : List ℕ) → kept ≡ rules ++ tail → take (length kept - length tail) kept ≡ rules
kept-end rules tail kept all =
    let size : length kept ≡ length rules + length tail = ap length all ∙ length-append rules tail in
    let n : length kept - length tail ≡ length rules = omega arith in
    rw (n, all) (take-append_seam rules tail)

kept-is : (v rules : List ℕ) → v ≡ rules → KeepsEnough v rules
kept-is v rules e = rw e (λ short. refl, λ long. long)

pending-few : (p : LinePlace) → length (pending p) ≤ 2
pending-few place.Start = omega arith
pending-few place.Percent = omega arith
pending-few place.Percents = omega arith
pending-few place.Inside = omega arith

-- what is known of the bytes that are left, after a read took some
left-is : (now new : Option (List ℕ)) (left bs : List ℕ) → now ≡ Some left → Consumes now new bs → (zs : List ℕ) × (new ≡ Some zs) × (left ≡ bs ++ zs)
left-is None new left bs e took = cc
left-is (Some xs) None left bs e took = absurd took
left-is (Some xs) (Some zs) left bs e took = let same : xs ≡ left = cc in (zs, refl, sym same ∙ took)

-- what the reading of a joined text answers
abbrev Answers : List ℕ → Option (List ℕ) → List ℕ → Type 0
Answers xs new kept = KeepsEnough kept (split_joined xs).0 × (new ≡ Some (split_joined xs).1)

pub joins-end : (xs : List ℕ) (now new : Option (List ℕ)) (kept v : List ℕ) (p : LinePlace) → Joins xs now kept p → Consumes now new [] → IsAtEnd new
    → v ≡ take (length kept - length (split_mark p)) kept → Answers xs new v
joins-end xs now new kept v p h took end e =
    let (zs, at_z, left) = left-is now new h.left [] h.unread took in
    let none : zs ≡ [] = rw at_z at end in
    let whole : split_joined xs ≡ (h.rules ++ settled_bytes p, []) = h.split ∙ ap (ahead h.rules) (ap (split_at p) (left ∙ none) ∙ split-end p) in
    let all : kept ≡ (h.rules ++ settled_bytes p) ++ split_mark p =
    h.all ∙ (ap (λ (l : List ℕ). h.rules ++ l) (pending-settled p) ∙ sym (append_assoc h.rules (settled_bytes p) (split_mark p))) in
    (rw whole (kept-is v (h.rules ++ settled_bytes p) (e ∙ kept-end (h.rules ++ settled_bytes p) (split_mark p) kept all)), rw whole (at_z ∙ ap Some none))

joins-line : (xs : List ℕ) (now new : Option (List ℕ)) (kept v : List ℕ) → Joins xs now kept place.Percents → Consumes now new (10 ∷ [])
    → v ≡ take (length kept - 2) kept → Answers xs new v
joins-line xs now new kept v h took e =
    let (zs, at_z, left) = left-is now new h.left (10 ∷ []) h.unread took in
    let whole : split_joined xs ≡ (h.rules, zs) = h.split ∙ (ap (ahead h.rules) (ap (split_at place.Percents) left ∙ split-line zs) ∙ ap (λ (l : List ℕ). (l, zs)) (append-nil h.rules)) in
    (rw whole (kept-is v h.rules (e ∙ kept-end h.rules (37 ∷ 37 ∷ []) kept h.all)), rw whole at_z)

pub joins-more : (xs : List ℕ) (now new : Option (List ℕ)) (kept after : List ℕ) (p : LinePlace) (c : ℕ) → Joins xs now kept p → (p ≡ place.Percents → c ≡ 10 → ⊥)
    → Consumes now new (c ∷ []) → after ≡ kept ++ c ∷ [] → Joins xs new after (place_after p c)
joins-more xs now new kept after p c h not_split took more =
    let (zs, at_z, left) = left-is now new h.left (c ∷ []) h.unread took in
    let (s, split, bytes) = steps p c zs not_split in
    let shorter : length h.left ≡ suc (length zs) = ap length left in
    let known : length h.left ≤ length xs = h.few in
    record {
      rules = h.rules ++ s;
      left = zs;
      unread = at_z;
      few = omega (arith, shorter, known);
      split = h.split ∙ (ap (ahead h.rules) (ap (split_at p) left ∙ split) ∙ ahead-ahead h.rules s (split_at (place_after p c) zs));
      all = more ∙ (ap (λ (l : List ℕ). l ++ c ∷ []) h.all ∙ (append_assoc h.rules (pending p) (c ∷ []) ∙ (ap (λ (l : List ℕ). h.rules ++ l) bytes ∙ sym (append_assoc h.rules s (pending (place_after p c))))));
    }

-- more than a rules text may have is kept
pub joins-full : (xs : List ℕ) (now : Option (List ℕ)) (kept : List ℕ) (p : LinePlace) → Joins xs now kept p → 1048579 ≤ length kept → KeepsEnough kept (split_joined xs).0 × (rules_limit < length kept)
joins-full xs now kept p h full =
    let few : length (pending p) ≤ 2 = pending-few p in
    let size : length kept ≡ length h.rules + length (pending p) = ap length h.all ∙ length-append h.rules (pending p) in
    let whole : length (split_joined xs).0 ≡ length h.rules + length (split_at p h.left).0 = ap (λ (q : Parts). length q.0) h.split ∙ length-append h.rules (split_at p h.left).0 in
    ((λ short. absurd (omega arith), λ _. omega arith), omega arith)

-- what is read on after it is past the split
pub joins-past : (xs : List ℕ) (now new : Option (List ℕ)) (kept : List ℕ) (p : LinePlace) → Joins xs now kept p
    → ((ys : List ℕ) → now ≡ Some ys → length ys < 2 ^ 64 - 1 → IsPastSplit (split_at p ys) new) → length xs < 2 ^ 64 - 1 → IsPastSplit (split_joined xs) new
joins-past xs now new kept p h past short =
    let few : length h.left ≤ length xs = h.few in
    let (k, left) = past h.left h.unread (omega arith) in
    (k, left ∙ sym (ap (λ (w : Parts). let rest : Option (List ℕ) = Some (drop k w.1) in rest) h.split))

pub past-now : (parts : Parts) (new : Option (List ℕ)) → new ≡ Some parts.1 → IsPastSplit parts new
past-now parts new e = (0, e)

-- what is known of the reading on after some chunks
pub record ReadOn (p : LinePlace) (xs : List ℕ) (now : Option (List ℕ)) (q : LinePlace) (chunks : ℕ) : Type 0 where
  pub rules : List ℕ
  pub left : List ℕ
  pub unread : now ≡ Some left
  pub split : split_at p xs ≡ ahead rules (split_at q left)
  pub many : chunks + length left ≤ length xs

pub on-start : (p : LinePlace) (xs : List ℕ) (now : Option (List ℕ)) → now ≡ Some xs → ReadOn p xs now p 0
on-start p xs now e = record { rules = []; left = xs; unread = e; split = refl; many = omega arith }

pub on-more : (p : LinePlace) (xs : List ℕ) (now new : Option (List ℕ)) (q r : LinePlace) (chunks : ℕ) (bs : List ℕ) → ReadOn p xs now q chunks → Consumes now new bs → 0 < length bs
    → Some r ≡ place_over q bs → ReadOn p xs new r (chunks + 1)
on-more p xs now new q r chunks bs h took some is =
    let (zs, at_z, left) = left-is now new h.left bs h.unread took in
    let (s, split) = subst (Over q bs zs) (sym is) (over q bs zs) in
    let size : length h.left ≡ length bs + length zs = ap length left ∙ length-append bs zs in
    let many : chunks + length h.left ≤ length xs = h.many in
    record {
      rules = h.rules ++ s;
      left = zs;
      unread = at_z;
      split = h.split ∙ (ap (ahead h.rules) (ap (split_at q) left ∙ split) ∙ ahead-ahead h.rules s (split_at r zs));
      many = omega (arith, size, many, some);
    }

pub on-split : (p : LinePlace) (xs : List ℕ) (now new : Option (List ℕ)) (q : LinePlace) (chunks : ℕ) (bs : List ℕ) → ReadOn p xs now q chunks → Consumes now new bs
    → None ≡ place_over q bs → IsPastSplit (split_at p xs) new
on-split p xs now new q chunks bs h took is =
    let (zs, at_z, left) = left-is now new h.left bs h.unread took in
    let (k, rest) = subst (Over q bs zs) (sym is) (over q bs zs) in
    (k, at_z ∙ ap Some (rest ∙ sym (ap (λ (w : Parts). drop k w.1) (h.split ∙ ap (λ (l : List ℕ). ahead h.rules (split_at q l)) left))))

pub on-end : (p : LinePlace) (xs : List ℕ) (now new : Option (List ℕ)) (q : LinePlace) (chunks : ℕ) → ReadOn p xs now q chunks → Consumes now new [] → IsAtEnd new → IsPastSplit (split_at p xs) new
on-end p xs now new q chunks h took end =
    let (zs, at_z, left) = left-is now new h.left [] h.unread took in
    let none : zs ≡ [] = rw at_z at end in
    let whole : split_at p xs ≡ ahead h.rules (settled_bytes q, []) = h.split ∙ ap (ahead h.rules) (ap (split_at q) (left ∙ none) ∙ split-end q) in
    (0, at_z ∙ ap Some (none ∙ sym (ap (λ (w : Parts). w.1) whole)))

pub on-count : (p : LinePlace) (xs : List ℕ) (now : Option (List ℕ)) (q : LinePlace) (chunks : ℕ) → ReadOn p xs now q chunks → 2 ^ 64 - 1 ≤ chunks → length xs < 2 ^ 64 - 1 → IsPastSplit (split_at p xs) now
on-count p xs now q chunks h many short = let known : chunks + length h.left ≤ length xs = h.many in absurd (omega arith)

-- what may be the split line's bytes is kept
pub pending-after : (p : LinePlace) (c : ℕ) → length (pending (place_after p c)) ≤ length (pending p) + 1
pending-after p c = pending-by p c (nat_eq c 10) (nat_eq c 37) refl refl
  where
    pending-by : (q : LinePlace) (d : ℕ) (e h : Bool) → nat_eq d 10 ≡ e → nat_eq d 37 ≡ h → length (pending (place_after q d)) ≤ length (pending q) + 1
    pending-by place.Start d true h s t = rw s (omega arith)
    pending-by place.Start d false true s t = rw (s, t) (omega arith)
    pending-by place.Start d false false s t = rw (s, t) (omega arith)
    pending-by place.Percent d true h s t = rw s (omega arith)
    pending-by place.Percent d false true s t = rw (s, t) (omega arith)
    pending-by place.Percent d false false s t = rw (s, t) (omega arith)
    pending-by place.Percents d true h s t = rw s (omega arith)
    pending-by place.Percents d false h s t = rw s (omega arith)
    pending-by place.Inside d true h s t = rw s (omega arith)
    pending-by place.Inside d false h s t = rw s (omega arith)

-- a read into one byte that gives some gives that byte
pub one-byte : (n : ℕ) (buf : List ℕ) → length buf ≡ 1 → n ≤ 1 → n ≢ 0 → take n buf ≡ slice_index_or buf 0 0 ∷ []
one-byte n [] size most some = absurd (omega arith)
one-byte n (b ∷ []) size most some = let one : n ≡ 1 = grind (arith, some) in rw one refl
one-byte n (b ∷ c ∷ rest) size most some = absurd (omega arith)

pub joins-split : (xs : List ℕ) (now new : Option (List ℕ)) (kept v : List ℕ) (p : LinePlace) (c : ℕ) → Joins xs now kept p → ends_split p c ≡ true → Consumes now new (c ∷ [])
    → v ≡ take (length kept - length (split_mark p)) kept → Answers xs new v
joins-split xs now new kept v p c h ends took e =
    let (is, ten) = splits-at p c ends in
    let P : LinePlace → Type 0 = λ q. Joins xs now kept q in
    let T : ℕ → Type 0 = λ d. Consumes now new (d ∷ []) in
    let V : LinePlace → Type 0 = λ q. v ≡ take (length kept - length (split_mark q)) kept in
    joins-line xs now new kept v (subst P is h) (subst T ten took) (subst V is e)

pub mark-after : (p : LinePlace) (c : ℕ) (kept after : List ℕ) → length (pending p) ≤ length kept → after ≡ kept ++ c ∷ [] → length (pending (place_after p c)) ≤ length after
mark-after p c kept after few more =
    let next : length (pending (place_after p c)) ≤ length (pending p) + 1 = pending-after p c in
    let size : length after ≡ length kept + 1 = ap length more ∙ length-append kept (c ∷ []) in
    omega arith
