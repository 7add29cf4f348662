-- Two tests of flags are found to be the same exactly where they are equal.
use Rattle.std.proofs.Common.{◌≡◌, Bool, true, false, ◌&&◌, ◌↔◌, refl, ap, sym, ◌∙◌}
use Rattle.std.specs.Bool.{IsTrue}
use Rattle.std.proofs.Math.Bool.{beq}
use Rattle.pfs_addr_values.specs.declared.flag_sets.Flags.{Flags}
use Rattle.pfs_conf_values.specs.declared.filters.FlagTest.{FlagTest}
use Rattle.pfs_conf_values.specs.declared.filters.FlagTest.TheVariants.{Any, Exactly}
use Rattle.pfs_eval.specs.Matching.{same_flags}
use Rattle.pfs_eval.specs.Parameters.{same_test}

first : (a b : Bool) → (a && b) ≡ true → a ≡ true
first true b h = refl
first false b h = cc

rest : (a b : Bool) → (a && b) ≡ true → b ≡ true
rest true b h = h
rest false b h = cc

same_bit : (a b : Bool) → beq a b ≡ true → a ≡ b
same_bit true true h = refl
same_bit false false h = refl
same_bit true false h = cc
same_bit false true h = cc

abbrev flags_of : Bool → Bool → Bool → Bool → Bool → Bool → Bool → Bool → Flags
flags_of a b c d e f g h = record { fin = a; syn = b; rst = c; psh = d; ack = e; urg = f; ece = g; cwr = h }

same_fields : {a b c d e f g h i j k l m n o p : Bool} → a ≡ i → b ≡ j → c ≡ k → d ≡ l → e ≡ m → f ≡ n → g ≡ o → h ≡ p
    → flags_of a b c d e f g h ≡ flags_of i j k l m n o p
same_fields q r s t u v w x = cc

same_sets : (f g : Flags) → same_flags f g ≡ true → f ≡ g
same_sets f g h =
    let fin : f.fin ≡ g.fin = same_bit _ _ (first _ _ h) in
    let h1 = rest _ _ h in
    let syn : f.syn ≡ g.syn = same_bit _ _ (first _ _ h1) in
    let h2 = rest _ _ h1 in
    let rst : f.rst ≡ g.rst = same_bit _ _ (first _ _ h2) in
    let h3 = rest _ _ h2 in
    let psh : f.psh ≡ g.psh = same_bit _ _ (first _ _ h3) in
    let h4 = rest _ _ h3 in
    let ack : f.ack ≡ g.ack = same_bit _ _ (first _ _ h4) in
    let h5 = rest _ _ h4 in
    let urg : f.urg ≡ g.urg = same_bit _ _ (first _ _ h5) in
    let h6 = rest _ _ h5 in
    let ece : f.ece ≡ g.ece = same_bit _ _ (first _ _ h6) in
    let cwr : f.cwr ≡ g.cwr = same_bit _ _ (rest _ _ h6) in
    same_fields fin syn rst psh ack urg ece cwr

pub same_when : (f g : FlagTest) → same_test f g ≡ true → f ≡ g
same_when Any Any h = refl
same_when Any (Exactly c d) h = cc
same_when (Exactly a b) Any h = cc
same_when (Exactly a b) (Exactly c d) h = let e = same_sets a c (first _ _ h) in let k = same_sets b d (rest _ _ h) in cc

bit_itself : (a : Bool) → beq a a ≡ true
bit_itself true = refl
bit_itself false = refl

set_itself : (f : Flags) → same_flags f f ≡ true
set_itself f = rw (bit_itself f.fin, bit_itself f.syn, bit_itself f.rst, bit_itself f.psh, bit_itself f.ack, bit_itself f.urg, bit_itself f.ece, bit_itself f.cwr) refl

pub test_itself : (f : FlagTest) → same_test f f ≡ true
test_itself Any = refl
test_itself (Exactly a b) = rw (set_itself a, set_itself b) refl

pub same_tests : (f g : FlagTest) (b : Bool) → b ≡ same_test f g → IsTrue b ↔ (f ≡ g)
same_tests f g b e = (λ t. same_when f g (sym e ∙ t), λ h. e ∙ ap (same_test f) (sym h) ∙ test_itself f)
