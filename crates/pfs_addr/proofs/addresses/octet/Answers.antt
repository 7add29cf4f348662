-- A byte by how many digits it has.
use Rattle.std.proofs.Common.{◌+◌, ◌∷◌, ◌∙◌, ℕ, List, arith, ap, sym}
use Rattle.pfs_addr.proofs.QuadLaws.{octet_stops, octet_one, octet_zero, octet_two, octet_three, octet_large, octet_four}
use Rattle.pfs_addr.proofs.addresses.octet.Goals.{in_default-digit-3-via-in-None+else-number-le255, in_default-digit-3-via-in_default-digit-3}
use Rattle.pfs_addr.proofs.addresses.octet.Goals as goal

pub returns-in_default : goal.returns-in_default
returns-in_default c = sym (octet_stops c.args.text.now c.in_default.ensures)

pub returns-in_default-digit : goal.returns-in_default-digit
returns-in_default-digit c = sym (octet_one c.in-Some.a c.args.text.now c.in-Some.rest.now c.in-Some.ensures.0 c.in-Some.ensures.1 c.in_default-digit.ensures)

pub returns-then-a-eq0 : goal.returns-then-a-eq0
returns-then-a-eq0 c =
    let two = c.in-Some.ensures.1 ∙ ap (λ (t : List ℕ). (48 + c.in-Some.a) ∷ t) c.in-Some-digit.ensures.1 in
    let zero_first = two ∙ ap (λ (n : ℕ). (48 + n) ∷ (48 + c.in-Some-digit.b) ∷ c.in-Some-digit.rest_of_two.now) c.if-a-eq0.true in
    sym (octet_zero c.in-Some-digit.b c.args.text.now c.in-Some-digit.rest_of_two.now c.in-Some-digit.ensures.0 zero_first)

pub returns-in_default-digit-2 : goal.returns-in_default-digit-2
returns-in_default-digit-2 c =
    let two = c.in-Some.ensures.1 ∙ ap (λ (t : List ℕ). (48 + c.in-Some.a) ∷ t) c.in-Some-digit.ensures.1 in
    sym (octet_two c.in-Some.a c.in-Some-digit.b c.args.text.now c.in-Some-digit.rest_of_two.now c.in-Some.ensures.0 c.in-Some-digit.ensures.0 (omega (arith, c.if-a-eq0.false)) two c.in_default-digit-2.ensures)

pub returns-in-None : goal.returns-in-None
returns-in-None c =
    let a = c.in-Some.a in
    let b = c.in-Some-digit.b in
    let d = c.in-Some-digit-2.c in
    let rest = c.in-Some-digit-2.rest.now in
    let three = c.in-Some.ensures.1 ∙ ap (λ (t : List ℕ). (48 + a) ∷ t) (c.in-Some-digit.ensures.1 ∙ ap (λ (t : List ℕ). (48 + b) ∷ t) c.in-Some-digit-2.ensures.1) in
    rw (c.from.ensures, c.from-2.ensures, c.from-3.ensures)
    (sym (octet_three a b d c.args.text.now rest c.in-Some.ensures.0 c.in-Some-digit.ensures.0 c.in-Some-digit-2.ensures.0 (omega (arith, c.if-a-eq0.false))
    (omega (arith, c.if-number-le255.true, c.from.ensures, c.from-2.ensures, c.from-3.ensures)) three c.in-None.ensures))

pub returns-in_default-digit-3 : goal.returns-in_default-digit-3
returns-in_default-digit-3 c =
    let a = c.in-Some.a in
    let b = c.in-Some-digit.b in
    let d = c.in-Some-digit-2.c in
    let rest = c.in-Some-digit-2.rest.now in
    let three = c.in-Some.ensures.1 ∙ ap (λ (t : List ℕ). (48 + a) ∷ t) (c.in-Some-digit.ensures.1 ∙ ap (λ (t : List ℕ). (48 + b) ∷ t) c.in-Some-digit-2.ensures.1) in
    elim c.in_default-digit-3.branch [
      | in_default-digit-3-via-in-None+else-number-le255 w ↦
          sym (octet_large a b d c.args.text.now rest c.in-Some.ensures.0 c.in-Some-digit.ensures.0 c.in-Some-digit-2.ensures.0 three (omega (arith, w.if-number-le255.false, c.from.ensures, c.from-2.ensures, c.from-3.ensures)))
      | in_default-digit-3-via-in_default-digit-3 w ↦
          sym (octet_four a b d w.in_default-digit-3.field-0.0 c.args.text.now rest w.in_default-digit-3.field-0.1.now c.in-Some.ensures.0 c.in-Some-digit.ensures.0 c.in-Some-digit-2.ensures.0 w.in_default-digit-3.ensures.0 three w.in_default-digit-3.ensures.1)
    ]
