-- Lists in brackets are read again, if each of their items is.
use Rattle.std.proofs.Common.{◌≡◌, ℕ, true, List, [], ◌∷◌, ◌++◌, refl, sym, subst, append_assoc}
use Rattle.pfs_conf_tokens.specs.declared.keys.Key.{Key}
use Rattle.pfs_conf_tokens.specs.Grammar.{ListOf, NextOf, Until, Word, comma, ends, goes}
use Rattle.pfs_conf_tokens.specs.Tokens.{Tok}
use Rattle.pfs_conf_show.specs.Pieces.{bracketed_list, going_on}
use Rattle.pfs_conf_round_trip.proofs.Pieces.{at, mark_space}

-- the texts of items lead from one value to another: each is read as an item, in front of what may follow one
pub data Chain {A : Type 0} (Item : A → List Tok → A → List Tok → Type 0) (Fits : ℕ → List ℕ → Type 0) : List (List ℕ) → A → A → Type 0 where
  done : {a : A} → Chain Item Fits [] a a
  next : {a b c : A} {x : List ℕ} {xs : List (List ℕ)} → ((line : ℕ) (more : List ℕ) → Fits line more → Item a (at line (x ++ more)) b (at line more))
      → Chain Item Fits xs b c → Chain Item Fits (x ∷ xs) a c

-- two lists one after the other
pub both : {A : Type 0} {Item : A → List Tok → A → List Tok → Type 0} {Fits : ℕ → List ℕ → Type 0} {a b c : A} {xs ys : List (List ℕ)}
    → Chain Item Fits xs a b → Chain Item Fits ys b c → Chain Item Fits (xs ++ ys) a c
both done q = q
both (next i p) q = next i (both p q)

-- what may follow an item: a comma, and what closes the list
pub record Closing {A : Type 0} (Item : A → List Tok → A → List Tok → Type 0) (Fits : ℕ → List ℕ → Type 0) (closer : Key) (closing : List ℕ) : Type 0 where
  pub comma_fits : (line : ℕ) (more : List ℕ) → Fits line (44 ∷ 32 ∷ more)
  pub closing_fits : (line : ℕ) (more : List ℕ) → Fits line (closing ++ more)
  pub closes : (line : ℕ) (more : List ℕ) → Word closer (at line (closing ++ more)) (at line more)

-- what follows an item fits: the next item, or the end of the list
behind_fits : {A : Type 0} (Item : A → List Tok → A → List Tok → Type 0) (Fits : ℕ → List ℕ → Type 0) (closer : Key) (opening closing : List ℕ) → Closing Item Fits closer closing
    → (xs : List (List ℕ)) (line : ℕ) (more : List ℕ) → Fits line (going_on opening true xs ++ (closing ++ more))
behind_fits Item Fits closer opening closing h [] line more = h.closing_fits line more
behind_fits Item Fits closer opening closing h (x ∷ xs) line more = h.comma_fits line ((x ++ going_on opening true xs) ++ (closing ++ more))

-- further items, up to what closes the list
others : {A : Type 0} (Item : A → List Tok → A → List Tok → Type 0) (Fits : ℕ → List ℕ → Type 0) (closer : Key) (opening closing : List ℕ) → Closing Item Fits closer closing
    → (xs : List (List ℕ)) (a c : A) (line : ℕ) (more : List ℕ) → Chain Item Fits xs a c
    → Until closer (NextOf Item) a (at line (going_on opening true xs ++ (closing ++ more))) c (at line more)
others Item Fits closer opening closing h [] a c line more done = ends (h.closes line more)
others Item Fits closer opening closing h (x ∷ xs) a c line more (next {b = b} i p) =
    let left = going_on opening true xs ++ (closing ++ more) in
    let P : List ℕ → Type 0 = λ z. Until closer (NextOf Item) a (at line (44 ∷ 32 ∷ z)) c (at line more) in
    subst P (sym (append_assoc x (going_on opening true xs) (closing ++ more)))
    (goes (comma (mark_space true line 44 (x ++ left) refl) (i line left (behind_fits Item Fits closer opening closing h xs line more)))
    (others Item Fits closer opening closing h xs b c line more p))

-- a list that has begun with its first item
pub listed_again : {A : Type 0} (Item : A → List Tok → A → List Tok → Type 0) (Fits : ℕ → List ℕ → Type 0) (closer : Key) (opening closing : List ℕ) → Closing Item Fits closer closing
    → (x : List ℕ) (xs : List (List ℕ)) (a c : A) (line : ℕ) (more : List ℕ) → Chain Item Fits (x ∷ xs) a c
    → ListOf closer Item a (at line (x ++ (going_on opening true xs ++ (closing ++ more)))) c (at line more)
listed_again Item Fits closer opening closing h x xs a c line more (next {b = b} i p) =
    let left = going_on opening true xs ++ (closing ++ more) in
    record {
      first = b;
      mid = at line left;
      begins = i line left (behind_fits Item Fits closer opening closing h xs line more);
      others = others Item Fits closer opening closing h xs b c line more p;
    }

-- the text of a list that has items
pub bracketed_more : (opening closing x : List ℕ) (xs : List (List ℕ)) (more : List ℕ)
    → bracketed_list opening closing (x ∷ xs) ++ more ≡ opening ++ (x ++ (going_on opening true xs ++ (closing ++ more)))
bracketed_more opening closing x xs more = go opening x (going_on opening true xs) closing more
  where
    go : (a b c d e : List ℕ) → ((a ++ (b ++ c)) ++ d) ++ e ≡ a ++ (b ++ (c ++ (d ++ e)))
    go a b c d e = simp append_assoc
