-- Whether two items ask the same at a parameter: the test says yes exactly where it is written the same.
use Rattle.std.proofs.Common.{◌≡◌, Bool, true, Option, Some, None, refl, ap, subst, rules}
use Rattle.std.specs.Option.{option_eq}
use Rattle.pfs_conf_values.specs.declared.filters.Filter.{Filter}
use Rattle.pfs_eval.specs.Matching.{same_dir, is_same_proto}
use Rattle.pfs_eval.specs.Parameters.{IsSame, asks_same, is_same_family, same_host, same_interface, same_ports, same_test}
use Rattle.pfs_eval.specs.declared.comparing.Parameter.{Parameter}
use Rattle.pfs_eval.specs.declared.comparing.Parameter.TheVariants as parameter
use Rattle.pfs_eval.proofs.SameFlags.{same_when, test_itself}

-- a test that says yes of equal values alone, and of each with itself
record Tests {X : Type 0} (same : X → X → Bool) : Type 0 where
  pub equal : (a b : X) → same a b ≡ true → a ≡ b
  pub itself : (a : X) → same a a ≡ true

options : {X : Type 0} (same : X → X → Bool) → Tests same → Tests (option_eq same)
options {X} same t = record { equal = equal; itself = itself }
  where
    equal : (x y : Option X) → option_eq same x y ≡ true → x ≡ y
    equal None None h = refl
    equal None (Some y) h = cc
    equal (Some x) None h = cc
    equal (Some x) (Some y) h = ap Some (t.equal x y h)

    itself : (x : Option X) → option_eq same x x ≡ true
    itself None = refl
    itself (Some x) = t.itself x

interfaces : Tests same_interface
interfaces = record { equal = λ a b h. search rules; itself = λ a. search rules }

directions : Tests same_dir
directions = record { equal = λ a b h. search rules; itself = λ a. search rules }

families : Tests is_same_family
families = record { equal = λ a b h. search rules; itself = λ a. search rules }

protocols : Tests is_same_proto
protocols = record { equal = λ a b h. search rules; itself = λ a. search rules }

hosts : Tests same_host
hosts = record { equal = λ a b h. search rules; itself = λ a. search rules }

ports : Tests same_ports
ports = record { equal = λ a b h. search rules; itself = λ a. search rules }

flags : Tests same_test
flags = record { equal = same_when; itself = test_itself }

-- the same value, as the test tells it
again : {X : Type 0} (same : X → X → Bool) → Tests same → (a b : X) → a ≡ b → same a b ≡ true
again same t a b e = subst (λ c. same a c ≡ true) e (t.itself a)

pub asked_same : (k : Parameter) (f g : Filter) → asks_same k f g ≡ true → IsSame k f g
unfolding asks_same
asked_same parameter.Interface f g h = (options same_interface interfaces).equal f.on g.on h
asked_same parameter.Direction f g h = (options same_dir directions).equal f.dir g.dir h
asked_same parameter.Family f g h = (options is_same_family families).equal f.family g.family h
asked_same parameter.Protocol f g h = (options is_same_proto protocols).equal f.proto g.proto h
asked_same parameter.SourceHost f g h = hosts.equal f.from.host g.from.host h
asked_same parameter.DestinationHost f g h = hosts.equal f.to.host g.to.host h
asked_same parameter.SourcePort f g h = (options same_ports ports).equal f.from.ports g.from.ports h
asked_same parameter.DestinationPort f g h = (options same_ports ports).equal f.to.ports g.to.ports h
asked_same parameter.Flags f g h = flags.equal f.flags g.flags h

pub same_asked : (k : Parameter) (f g : Filter) → IsSame k f g → asks_same k f g ≡ true
unfolding asks_same
same_asked parameter.Interface f g e = again (option_eq same_interface) (options same_interface interfaces) f.on g.on e
same_asked parameter.Direction f g e = again (option_eq same_dir) (options same_dir directions) f.dir g.dir e
same_asked parameter.Family f g e = again (option_eq is_same_family) (options is_same_family families) f.family g.family e
same_asked parameter.Protocol f g e = again (option_eq is_same_proto) (options is_same_proto protocols) f.proto g.proto e
same_asked parameter.SourceHost f g e = again same_host hosts f.from.host g.from.host e
same_asked parameter.DestinationHost f g e = again same_host hosts f.to.host g.to.host e
same_asked parameter.SourcePort f g e = again (option_eq same_ports) (options same_ports ports) f.from.ports g.from.ports e
same_asked parameter.DestinationPort f g e = again (option_eq same_ports) (options same_ports ports) f.to.ports g.to.ports e
same_asked parameter.Flags f g e = again same_test flags f.flags g.flags e
