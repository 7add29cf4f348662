-- Groups of words that are asked one after the other.
use Rattle.std.proofs.Common.{◌≡◌, ◌<◌, ◌≤◌, ◌+◌, ℕ, drop, get_or, length, map, List, [], ◌∷◌, ◌++◌, Ok, Err, inl, inr, sym, subst, append_assoc, append-nil}
use Rattle.std.proofs.lemmas.List.{drop_all}
use Rattle.clap.specs.Words.{Text}
use Rattle.pfs_capture_jobs.proofs.ReadingLaws.{drop-here}
use Rattle.pfs_capture_jobs.specs.Asked.{AskedBy}
use Rattle.pfs_capture_jobs.specs.Requests.{AllAsk, AreOwn, FirstRefused, OneRefused}
use Rattle.pfs_capture_jobs.specs.declared.asking.InterfaceWords.{InterfaceWords}
use Rattle.pfs_capture_jobs.specs.declared.refusals.WordsRefusal.{WordsRefusal}
use Rattle.pfs_capture_jobs.specs.declared.refusals.WordsRefusal.TheVariants as refusal
use Rattle.pfs_capture_jobs.specs.declared.wanted.CaptureSource.{CaptureSource}

-- what is asked so far, and what the groups that are left make of all
abbrev pub AskedSoFar : List (List Text) → List InterfaceWords → List (List Text) → Type 0
AskedSoFar groups done left = ((more : List InterfaceWords) → AllAsk left more → AllAsk groups (done ++ more)) × ((f : WordsRefusal) → FirstRefused left f → FirstRefused groups f)

pub asked-step : (groups : List (List Text)) (done : List InterfaceWords) (words : List Text) (left : List (List Text)) (a : InterfaceWords) → AskedSoFar groups done (words ∷ left) → AskedBy words (Ok a)
    → AskedSoFar groups (done ++ a ∷ []) left
asked-step groups done words left a so is =
    (λ more h. subst (λ (all : List InterfaceWords). AllAsk groups all) (sym (append_assoc done (a ∷ []) more)) (so.0 (a ∷ more) (is, h)), λ f r. so.1 f (inr (a, is, r)))

pub asked-all : (groups : List (List Text)) (done : List InterfaceWords) → AskedSoFar groups done [] → AllAsk groups done
asked-all groups done so = subst (λ (all : List InterfaceWords). AllAsk groups all) (append-nil done) (so.0 [] tt)

pub one-refused : (groups : List (List Text)) (done : List InterfaceWords) (words : List Text) (left : List (List Text)) (f : WordsRefusal) → AskedSoFar groups done (words ∷ left) → AskedBy words (Err f)
    → OneRefused groups f
one-refused groups done words left (refusal.Clap e) so is = so.1 (refusal.Clap e) (inl is)
one-refused groups done words left (refusal.Mistake m) so is = so.1 (refusal.Mistake m) (inl is)
one-refused groups done words left refusal.Memory so is = tt

-- one capture more of one group more
pub own-step : (asked : List InterfaceWords) (sources : List CaptureSource) (a : InterfaceWords) (s : CaptureSource) → AreOwn asked sources → AreOwn (a ∷ []) (s ∷ []) → AreOwn (asked ++ a ∷ []) (sources ++ s ∷ [])
own-step [] [] a s so one = one
own-step [] (y ∷ ys) a s so one = absurd so
own-step (x ∷ xs) [] a s so one = absurd so
own-step (x ∷ xs) (y ∷ ys) a s so one = (so.0, so.1, own-step xs ys a s so.2 one)

pub own-next : (asked : List InterfaceWords) (sources after : List CaptureSource) (a : InterfaceWords) (s : CaptureSource) → after ≡ sources ++ s ∷ [] → AreOwn asked sources → AreOwn (a ∷ []) (s ∷ []) → AreOwn (asked ++ a ∷ []) after
own-next asked sources after a s e so one = subst (λ (ss : List CaptureSource). AreOwn (asked ++ a ∷ []) ss) (sym e) (own-step asked sources a s so one)

-- the same of the groups in their places
pub asked-next : {G : Type 0} (f : G → List Text) (groups : List G) (i : ℕ) (g o : G) (done after : List InterfaceWords) (a : InterfaceWords) → g ≡ get_or groups i o → i < length groups → after ≡ done ++ a ∷ []
    → AskedSoFar (map f groups) done (map f (drop i groups)) → AskedBy (f g) (Ok a) → AskedSoFar (map f groups) after (map f (drop (i + 1) groups))
asked-next f groups i g o done after a e lt is so one =
    subst (λ (all : List InterfaceWords). AskedSoFar (map f groups) all (map f (drop (i + 1) groups))) (sym is)
    (asked-step (map f groups) done (f g) (map f (drop (i + 1) groups)) a
    (subst (λ (left : List _). AskedSoFar (map f groups) done (map f left)) (drop-here groups i g o e lt) so) one)

pub asked-refused : {G : Type 0} (f : G → List Text) (groups : List G) (i : ℕ) (g o : G) (done : List InterfaceWords) (x : WordsRefusal) → g ≡ get_or groups i o → i < length groups
    → AskedSoFar (map f groups) done (map f (drop i groups)) → AskedBy (f g) (Err x) → OneRefused (map f groups) x
asked-refused f groups i g o done x e lt so one =
    one-refused (map f groups) done (f g) (map f (drop (i + 1) groups)) x
    (subst (λ (left : List _). AskedSoFar (map f groups) done (map f left)) (drop-here groups i g o e lt) so) one

pub asked-end : {G : Type 0} (f : G → List Text) (groups : List G) (i : ℕ) (done : List InterfaceWords) → length groups ≤ i → AskedSoFar (map f groups) done (map f (drop i groups)) → AllAsk (map f groups) done
asked-end f groups i done le so = asked-all (map f groups) done (subst (λ (left : List _). AskedSoFar (map f groups) done (map f left)) (drop_all i groups le) so)
