-- What is reported of a rules text alone.
use Rattle.std.proofs.Common.{◌∙◌, ◌≡◌, ◌≢◌, ◌++◌, ℕ, List, [], Option, Result, Ok, Err, arith, false, refl, sym, subst, inl, inr}
use Rattle.std.specs.Prelude.{OnOk, OnErr, IfErr}
use Rattle.std.specs.Io.KnownBytes.{Appends}
use Rattle.pfs_conf_values.specs.Configs.{Conf}
use Rattle.pfs_conf.specs.Reads.{Reads}
use Rattle.pfs_conf.specs.declared.faults.LoadFault.{LoadFault}
use Rattle.pfs_conf.specs.declared.kinds.Kind.{Kind}
use Rattle.pfs_conf.specs.declared.kinds.Kind.TheVariants as kind
use Rattle.pfs_cli.specs.declared.faults.ReplayFault.{ReplayFault}
use Rattle.pfs_cli.specs.declared.faults.ReplayFault.TheVariants as fault
use Rattle.pfs_cli.specs.Refusing.{IsFeedFault, RefusesText, fault_by, fault_of}
use Rattle.pfs_cli.specs.Checks.{Answers}
use Rattle.pfs_cli.specs.Replays.{ShowsLines}
use Rattle.pfs_streams.specs.Sinks.{SinkView, FlushedOnce, OwesNoFlush, is_unflushed, one_more}

-- one flush is counted
pub asked-once : {W : Type 0} (a b : SinkView W) → b.flushes ≡ one_more a.flushes → FlushedOnce a b
asked-once a b asked e = grind (arith, asked)

-- no fault of rules is one of writing
pub refused-no_write : (f : LoadFault) → fault_of f ≢ fault.Write
refused-no_write f = go f.kind
  where
    go : (c : Kind) → fault_by f c ≢ fault.Write
    go kind.Memory e = absurd cc
    go _ e = absurd cc

-- and none of reading
pub feed-no_write : (f : ReplayFault) → IsFeedFault f → f ≢ fault.Write
feed-no_write f h e = elim h [ inl r ↦ absurd cc | inr s ↦ elim s [ inl r ↦ absurd cc | inr r ↦ absurd cc ] ]

-- what reading stops with may be reported of any text
pub feed-refused : (text : List ℕ) (f : ReplayFault) → IsFeedFault f → RefusesText text f
feed-refused text f h = elim h [
  | inl r ↦ subst (RefusesText text) (sym r) tt
  | inr s ↦ elim s [ inl r ↦ subst (RefusesText text) (sym r) tt | inr r ↦ subst (RefusesText text) (sym r) tt ]
]

-- nothing is written then
pub nothing-written : (text_of : Conf → List ℕ) (text : List ℕ) (f : ReplayFault) → RefusesText text f → Answers text_of text [] (Err f)
nothing-written text_of text (fault.Rules e) h = (h.1, refl)
nothing-written text_of text fault.Read h = refl
nothing-written text_of text fault.Endless h = refl
nothing-written text_of text fault.Memory h = refl
nothing-written text_of text (fault.Columns row) h = absurd h
nothing-written text_of text (fault.Field row column) h = absurd h
nothing-written text_of text (fault.TimeFell row) h = absurd h
nothing-written text_of text (fault.Table row) h = absurd h
nothing-written text_of text fault.TooManyRows h = absurd h
nothing-written text_of text fault.Write h = absurd h

-- what is written of a text
pub text-written : (text_of : Conf → List ℕ) (text : List ℕ) (conf : Conf) → Reads text conf → (bytes : List ℕ) → bytes ≡ text_of conf → (a b : Option (List ℕ)) (r : Result Unit ReplayFault)
    → OnOk r (Appends a b bytes) → OnErr r ((t : List ℕ) × Appends a b t × ((rest : List ℕ) × (bytes ≡ t ++ rest))) → IfErr r (λ f. f ≡ fault.Write)
    → (t : List ℕ) × Appends a b t × Answers text_of text t r
text-written text_of text conf reads bytes same a b (Ok u) ok err kind = (bytes, ok, (conf, reads, same))
text-written text_of text conf reads bytes same a b (Err f) ok err kind =
    (err.0, err.1, subst (λ (x : ReplayFault). Answers text_of text err.0 (Err x)) (sym kind) (conf, reads, (err.2.0, sym same ∙ err.2.1)))

-- where writing failed the fault is that of writing
pub written-kind : (r : Result Unit ReplayFault) (f : ReplayFault) → f ≢ fault.Write → IfErr r (λ x. x ≡ fault.Write) → r ≡ Err f → ⊥
written-kind r f other kind is = other (rw is at kind)

-- and a failure is counted
pub write-failed : {P : Type 0} (r : Result Unit ReplayFault) (f : ReplayFault) → OnErr r P → r ≡ Err f → P
write-failed r f fails is = rw is at fails

-- by lines nothing is left to be flushed where nothing was written
pub unwritten-shows : {W : Type 0} (left : SinkView W) (f : ReplayFault) → OwesNoFlush left → ShowsLines left (Err f)
unwritten-shows left (fault.Rules f) owes = owes
unwritten-shows left (fault.Columns row) owes = owes
unwritten-shows left (fault.Field row column) owes = owes
unwritten-shows left (fault.TimeFell row) owes = owes
unwritten-shows left (fault.Table row) owes = owes
unwritten-shows left fault.TooManyRows owes = owes
unwritten-shows left fault.Read owes = owes
unwritten-shows left fault.Write owes = tt
unwritten-shows left fault.Memory owes = owes
unwritten-shows left fault.Endless owes = owes

-- and where all was flushed
pub written-shows : {W : Type 0} (left : SinkView W) (r : Result Unit ReplayFault) → IfErr r (λ f. f ≡ fault.Write) → OnOk r (is_unflushed left ≡ false) → ShowsLines left r
written-shows left (Ok u) kind flushed = flushed
written-shows left (Err f) kind flushed = subst (λ (x : ReplayFault). ShowsLines left (Err x)) (sym kind) tt
