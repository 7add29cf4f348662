-- What is reported of a text whose rules are refused.
use Rattle.std.proofs.Common.{◌≡◌, ◌∙◌, ℕ, List, refl, sym, ap}
use Rattle.pfs_conf_values.specs.Configs.{Conf}
use Rattle.pfs_conf.specs.Kinds.{no_memory}
use Rattle.pfs_conf.specs.Reads.{Reads}
use Rattle.pfs_conf.specs.Faults.{IsFault}
use Rattle.pfs_conf.specs.declared.faults.LoadFault.{LoadFault}
use Rattle.pfs_conf.specs.declared.kinds.Kind.{Kind}
use Rattle.pfs_conf.specs.declared.kinds.Kind.TheVariants as kind
use Rattle.pfs_cli.specs.Refusing.{RefusesRules, fault_by, fault_of}

-- a fault of the text, if for a text with a configuration it is reported only where memory runs out
pub refuses : (text : List ℕ) (f : LoadFault) → IsFault text f → ((conf : Conf) → Reads text conf → f ≡ no_memory) → RefusesRules text (fault_of f)
refuses text f is only = go f.kind refl
  where
    go : (c : Kind) → f.kind ≡ c → RefusesRules text (fault_by f c)
    go kind.Memory e = tt
    go c e = (
      λ m. let q : c ≡ kind.Memory = sym e ∙ ap (λ (x : LoadFault). x.kind) m in absurd cc,
      λ conf reads. let q : c ≡ kind.Memory = sym e ∙ ap (λ (x : LoadFault). x.kind) (only conf reads) in absurd cc,
      is,
    )
