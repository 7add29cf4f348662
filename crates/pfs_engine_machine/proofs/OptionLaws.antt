-- What follows where an option is there.
use Rattle.std.proofs.Common.{◌≡◌, Option, None, Some, IfSome, refl, subst, true, is_none}
use Rattle.std.specs.Option.{ForSome}

pub some_of : {A : Type 0} (P : A → Type 0) (o : Option A) → IfSome o P → ForSome o P
some_of P None h = λ x e. cc
some_of P (Some y) h = λ x e. let same : y ≡ x = cc in subst P same h

-- where it is none
pub none-is : {A : Type 0} (o : Option A) → is_none o ≡ true → o ≡ None
none-is None e = refl
none-is (Some x) e = cc
