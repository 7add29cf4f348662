-- Laws of readers that hold for each of them.
--
-- A crate above imports them as `use Rattle.pfs_conf_tokens.proofs.Laws.{online_chain, ..}`.
--
-- `Online r f` says that the reader f looks no further than the token in front of what it leaves, and which tokens it
-- may pass. Each part of specs/Reading.antt keeps this, so a production takes two or three lines:
--
--     dir_taking : (k : Key) → Taking inside k (dir_by k)
--     dir_taking key.In = (refl, online_done dir.In)
--     dir_taking key.Out = (refl, online_done dir.Out)
--     dir_taking _ = tt
--
--     online_dir : Online inside dir_at
--     unfolding dir_at
--     online_dir = online_taking (λ t. dir_by t.key) (λ t. dir_taking t.key)
--
-- What follows from it, once for a whole text: reading that stops at a token stops there whatever follows that token
-- (`no_text`), and each token before it has a key that the reader may pass (`stops_at`).
use Rattle.std.proofs.Common.{◌≡◌, ℕ, zero, suc, ◌+◌, ◌≤◌, ◌<◌, Bool, true, false, cond, List, [], ◌∷◌, ◌++◌, length, Option, Some, None, Result, Ok, Err, refl, sym, ap, subst, ◌∙◌, arith, inl, inr, ◌⊎◌, length-append}
use Rattle.pfs_conf_tokens.specs.Tokens.{Tok, head}
use Rattle.pfs_conf_tokens.specs.Reading.{rest, Refused, stop, Reader, ◌>>=◌, Act, take, stay, refuse, act, on_front, done, chain, perhaps, once, turns, taken, left_there, until_all, up_to_all, ended_by, ended, load_rule_reader}
use Rattle.pfs_conf_tokens.specs.declared.keys.Key.{Key}
use Rattle.pfs_conf_tokens.specs.declared.keys.Key.TheVariants as key
use Rattle.pfs_conf_tokens.specs.declared.refusals.Why.{Why}
use Rattle.pfs_conf_tokens.specs.declared.refusals.Why.TheVariants as why
use Rattle.pfs_conf_tokens.specs.declared.refusals.LoadRule.{LoadRule}
use Rattle.pfs_conf_tokens.specs.Keys.{in_line, before_end}
use Rattle.pfs_conf_tokens.specs.Grammar.{Passes, stays, over}

-- each of the tokens has a key that passes
pub data AllKeys (p : Key → Bool) : List Tok → Type 0 where
  no_keys : AllKeys p []
  a_key : {t : Tok} {ts : List Tok} → p t.key ≡ true → AllKeys p ts → AllKeys p (t ∷ ts)

-- ---- results

pub bind_ok : {A B : Type 0} (r : Result A Refused) (f : A → Result B Refused) (y : B) → (r >>= f) ≡ Ok y → (x : A) × (r ≡ Ok x) × (f x ≡ Ok y)
bind_ok (Ok x) f y e = (x, refl, e)
bind_ok (Err d) f y e = absurd cc

pub bind_err : {A B : Type 0} (r : Result A Refused) (f : A → Result B Refused) (d : Refused) → (r >>= f) ≡ Err d → (r ≡ Err d) ⊎ ((x : A) × (r ≡ Ok x) × (f x ≡ Err d))
bind_err (Ok x) f d e = inr (x, refl, e)
bind_err (Err c) f d e = inl (let k : c ≡ d = cc in ap (λ (x : Refused). Err x) k)

abbrev fine : {A : Type 0} → A → Result A Refused
fine x = Ok x

ok_is : {A : Type 0} (x y : A) → fine x ≡ fine y → x ≡ y
ok_is x y e = cc

-- the same value and the same tokens left
pub ok_parts : {A : Type 0} (x y : A) (ts us : List Tok) → fine {A = A × List Tok} (x, ts) ≡ fine (y, us) → (x ≡ y) × (ts ≡ us)
ok_parts {A} x y ts us e =
    let p : ◌≡◌ {A = A × List Tok} (x, ts) (y, us) = ok_is (x, ts) (y, us) e in
    (ap (λ (q : A × List Tok). q.0) p, ap (λ (q : A × List Tok). q.1) p)

-- where a token is refused nothing is read. (In a case for all other keys this replaces a search for each.)
pub not_refused : {A : Type 0} (w : Why) (ts : List Tok) (x : A × List Tok) → act (refuse w) ts ≡ Ok x → ⊥
not_refused w ts x e = cc

-- what one reader after another gave, taken apart
pub chain_ok : {A B : Type 0} (f : Reader A) (g : A → Reader B) (ts : List Tok) (y : B) (left : List Tok) → chain f g ts ≡ Ok (y, left)
    → (x : A) × (mid : List Tok) × (f ts ≡ Ok (x, mid)) × (g x mid ≡ Ok (y, left))
chain_ok f g ts y left e = let b = bind_ok (f ts) (λ p. g p.0 p.1) (y, left) e in (b.0.0, b.0.1, b.1, b.2)

-- ---- what readers go over

-- how far a reader may go: over tokens of its line; over these and at last its line end; over any but the end of the text
pub data Reach : Type 0 where
  inside : Reach
  line : Reach
  across : Reach

-- what it goes over before it stops at a token
abbrev pub stopping : Reach → Key → Bool
stopping inside k = in_line k
stopping line k = in_line k
stopping across k = before_end k

-- what it goes over in all
abbrev pub taking : Reach → Key → Bool
taking inside k = in_line k
taking line k = before_end k
taking across k = before_end k

-- how far a part before the last may go
abbrev pub first : Reach → Reach
first inside = inside
first line = inside
first across = across

in_line_before_end : (k : Key) → in_line k ≡ true → before_end k ≡ true
in_line_before_end key.LineEnd e = absurd cc
in_line_before_end key.End e = absurd cc
in_line_before_end _ e = refl

stopping_taking : (r : Reach) (k : Key) → stopping r k ≡ true → taking r k ≡ true
stopping_taking inside k e = e
stopping_taking line k e = in_line_before_end k e
stopping_taking across k e = e

first_stopping : (r : Reach) (k : Key) → taking (first r) k ≡ true → stopping r k ≡ true
first_stopping inside k e = e
first_stopping line k e = e
first_stopping across k e = e

stopping_first : (r : Reach) (k : Key) → stopping (first r) k ≡ true → stopping r k ≡ true
stopping_first inside k e = e
stopping_first line k e = e
stopping_first across k e = e

end_not : (r : Reach) → taking r key.End ≡ true → ⊥
end_not inside e = cc
end_not line e = cc
end_not across e = cc

pub passes_then : {p : Key → Bool} {a b c : List Tok} → Passes p a b → Passes p b c → Passes p a c
passes_then stays q = q
passes_then (over e h) q = over e (passes_then h q)

pub passes_more : {p q : Key → Bool} {a b : List Tok} → ((k : Key) → p k ≡ true → q k ≡ true) → Passes p a b → Passes q a b
passes_more w stays = stays
passes_more w (over {t = t} e h) = over (w t.key e) (passes_more w h)

pub passes_less : {p : Key → Bool} {a b : List Tok} → Passes p a b → length b ≤ length a
passes_less stays = omega arith
passes_less (over e h) = let l = passes_less h in omega arith

-- ---- what is refused at a token is refused whatever follows that token

-- two lists of tokens are the same up to where these are left
pub data Share : List Tok → List Tok → List Tok → List Tok → Type 0 where
  here : {r r' : List Tok} → Share r r' r r'
  next : {t : Tok} {ts ts' r r' : List Tok} → Share ts ts' r r' → Share (t ∷ ts) (t ∷ ts') r r'

pub share_then : {a a' b b' c c' : List Tok} → Share a a' b b' → Share b b' c c' → Share a a' c c'
share_then here q = q
share_then (next p) q = next (share_then p q)

-- a reader that looks no further than the token in front of what it leaves, and goes no further than its reach
pub record Online {A : Type 0} (r : Reach) (f : List Tok → Result (A × List Tok) Refused) : Type 0 where
  pub took : (ts : List Tok) (x : A) (left : List Tok) → f ts ≡ Ok (x, left) → Passes (taking r) ts left
  pub stopped : (ts left : List Tok) (w : Why) → f ts ≡ Err (stop left w) → Passes (stopping r) ts left
  pub ok : (ts : List Tok) (x : A) (t : Tok) (m : List Tok) → f ts ≡ Ok (x, t ∷ m) → (m' : List Tok) → (ts' : List Tok) × Share ts ts' (t ∷ m) (t ∷ m') × (f ts' ≡ Ok (x, t ∷ m'))
  pub err : (ts : List Tok) (w : Why) (t : Tok) (m : List Tok) → f ts ≡ Err (stop (t ∷ m) w) → (m' : List Tok) → (ts' : List Tok) × Share ts ts' (t ∷ m) (t ∷ m') × (f ts' ≡ Err (stop (t ∷ m') w))

-- no more tokens are left than there were
pub online_less : {A : Type 0} {r : Reach} {f : Reader A} → Online r f → (ts : List Tok) (x : A) (left : List Tok) → f ts ≡ Ok (x, left) → length left ≤ length ts
online_less h ts x left e = passes_less (h.took ts x left e)

-- a reader of a line's inside may be used across lines
pub online_across : {A : Type 0} (f : Reader A) → Online inside f → Online across f
online_across f h = record {
  took = λ ts x left e. passes_more in_line_before_end (h.took ts x left e);
  stopped = λ ts left w e. passes_more in_line_before_end (h.stopped ts left w e);
  ok = h.ok;
  err = h.err;
}

-- and as the last part of a line
pub online_line : {A : Type 0} (f : Reader A) → Online inside f → Online line f
online_line f h = record {
  took = λ ts x left e. passes_more in_line_before_end (h.took ts x left e);
  stopped = h.stopped;
  ok = h.ok;
  err = h.err;
}

pub online_done : {A : Type 0} {r : Reach} (y : A) → Online r (done y)
online_done {r = r} y = record {
  took = λ ts x left e. let p = ok_parts y x ts left e in subst (λ (z : List Tok). Passes (taking r) ts z) p.1 stays;
  stopped = λ ts left w e. absurd cc;
  ok = λ ts x t m e m'. let p = ok_parts y x ts (t ∷ m) e in (t ∷ m', rw p.1 here, ap (λ z. Ok (z, t ∷ m')) p.0);
  err = λ ts w t m e m'. absurd cc;
}

-- a broken load rule is reported at its line, and is no stop at a token
pub online_judged : {A : Type 0} {r : Reach} (rule : LoadRule) (is_broken : Bool) (n : ℕ) (x : A) → Online r (load_rule_reader rule is_broken n x)
online_judged rule false n x = online_done x
online_judged rule true n x = record { took = λ ts y left e. absurd cc; stopped = λ ts left w e. absurd cc; ok = λ ts y t m e m'. absurd cc; err = λ ts w t m e m'. absurd cc }

-- reading shares the tokens up to those that are left
abbrev pub Shared : {A : Type 0} → Reader A → List Tok → Tok → List Tok → List Tok → Result (A × List Tok) Refused → Type 0
Shared f ts t m m' res = (ts' : List Tok) × Share ts ts' (t ∷ m) (t ∷ m') × (f ts' ≡ res)

chained : {A B : Type 0} {r : Reach} (f : Reader A) (g : A → Reader B) (ts : List Tok) (a : A) {mid mid' : List Tok} {t : Tok} {m m' : List Tok} (res : Result (B × List Tok) Refused)
    → Online r f → f ts ≡ Ok (a, mid) → Share mid mid' (t ∷ m) (t ∷ m') → g a mid' ≡ res → Shared (chain f g) ts t m m' res
chained f g ts a {t = t} {m = m} {m' = m'} res hf e here ge = let p = hf.ok ts a t m e m' in (p.0, p.1, rw p.2 ge)
chained f g ts a res hf e (next {t = v} {ts = n} {ts' = n'} s) ge = let p = hf.ok ts a v n e n' in (p.0, share_then p.1 (next s), rw p.2 ge)

pub online_chain : {A B : Type 0} {r : Reach} (f : Reader A) (g : A → Reader B) → Online (first r) f → ((a : A) → Online r (g a)) → Online r (chain f g)
online_chain {r = r} f g hf hg = record {
  took = λ ts x left e.
      let b = bind_ok (f ts) (λ p. g p.0 p.1) (x, left) e in
      passes_then (passes_more (λ k h. stopping_taking r k (first_stopping r k h)) (hf.took ts b.0.0 b.0.1 b.1)) ((hg b.0.0).took b.0.1 x left b.2);
  stopped = λ ts left w e. elim (bind_err (f ts) (λ p. g p.0 p.1) (stop left w) e) [
    | inl h ↦ passes_more (stopping_first r) (hf.stopped ts left w h)
    | inr b ↦ passes_then (passes_more (first_stopping r) (hf.took ts b.0.0 b.0.1 b.1)) ((hg b.0.0).stopped b.0.1 left w b.2)
  ];
  ok = λ ts x t m e m'.
      let b = bind_ok (f ts) (λ p. g p.0 p.1) (x, t ∷ m) e in
      let q = (hg b.0.0).ok b.0.1 x t m b.2 m' in
      chained f g ts b.0.0 (Ok (x, t ∷ m')) hf b.1 q.1 q.2;
  err = λ ts w t m e m'. elim (bind_err (f ts) (λ p. g p.0 p.1) (stop (t ∷ m) w) e) [
    | inl h ↦ let p = hf.err ts w t m h m' in (p.0, p.1, rw p.2 refl)
    | inr b ↦ let q = (hg b.0.0).err b.0.1 w t m b.2 m' in chained f g ts b.0.0 (Err (stop (t ∷ m') w)) hf b.1 q.1 q.2
  ];
}

-- an act at a key: what it then reads looks no further than the token in front of what it leaves. A token that is taken
-- before reading stops at a later one is within reach then
abbrev pub LastAct : {A : Type 0} → Reach → Key → Act A → Type 0
LastAct r k (take f) = (taking r k ≡ true) × Online r f × ((ts left : List Tok) (w : Why) → f ts ≡ Err (stop left w) → stopping r k ≡ true)
LastAct r k (stay f) = Online r f
LastAct r k (refuse w) = Unit {0}

-- the plain case: the token that is taken is no line end
abbrev pub OnlineAct : {A : Type 0} → Reach → Key → Act A → Type 0
OnlineAct r k (take f) = (stopping r k ≡ true) × Online r f
OnlineAct r k (stay f) = Online r f
OnlineAct r k (refuse w) = Unit {0}

acts_last : {A : Type 0} (r : Reach) (k : Key) (b : Act A) → OnlineAct r k b → LastAct r k b
acts_last r k (take f) h = (stopping_taking r k h.0, h.1, (λ ts left w e. h.0))
acts_last r k (stay f) h = h
acts_last r k (refuse w) h = tt

nothing_shared : {ts' : List Tok} {t : Tok} {m r' : List Tok} → Share [] ts' (t ∷ m) r' → ⊥
nothing_shared s = elim s [ ]

stayed : {A : Type 0} (d : Tok → Act A) (u : Tok) (us ts' : List Tok) {t : Tok} {m m' : List Tok} (res : Result (A × List Tok) Refused) → Share (u ∷ us) ts' (t ∷ m) (t ∷ m') → act (d u) ts' ≡ res → Shared (on_front d) (u ∷ us) t m m' res
stayed d u us ts' {m' = m'} res here e = (u ∷ m', here, e)
stayed d u us ts' res (next {ts' = n'} s) e = (u ∷ n', next s, e)

acted_ok : {A : Type 0} (r : Reach) (d : Tok → Act A) (u : Tok) (us : List Tok) (b : Act A) → LastAct r u.key b → d u ≡ b → (x : A) (t : Tok) (m : List Tok) → act b (u ∷ us) ≡ Ok (x, t ∷ m) → (m' : List Tok) → Shared (on_front d) (u ∷ us) t m m' (Ok (x, t ∷ m'))
acted_ok r d u us (take f) h e x t m k m' = let p = h.1.ok us x t m k m' in (u ∷ p.0, next p.1, rw e p.2)
acted_ok r d u us (stay f) h e x t m k m' = let p = h.ok (u ∷ us) x t m k m' in stayed d u us p.0 (Ok (x, t ∷ m')) p.1 (rw e p.2)
acted_ok r d u us (refuse w) h e x t m k m' = absurd cc

acted_err : {A : Type 0} (r : Reach) (d : Tok → Act A) (u : Tok) (us : List Tok) (b : Act A) → LastAct r u.key b → d u ≡ b → (w : Why) (t : Tok) (m : List Tok) → act b (u ∷ us) ≡ Err (stop (t ∷ m) w) → (m' : List Tok) → Shared (on_front d) (u ∷ us) t m m' (Err (stop (t ∷ m') w))
acted_err r d u us (take f) h e w t m k m' = let p = h.1.err us w t m k m' in (u ∷ p.0, next p.1, rw e p.2)
acted_err r d u us (stay f) h e w t m k m' = let p = h.err (u ∷ us) w t m k m' in stayed d u us p.0 (Err (stop (t ∷ m') w)) p.1 (rw e p.2)
acted_err r d u us (refuse v) h e w t m k m' =
    let q : ◌≡◌ {A = Tok} u t = cc in
    let c : v ≡ w = cc in
    (u ∷ m', rw q (let p : us ≡ m = cc in rw p here), rw e (rw (q, c) refl))

none_ok : {A : Type 0} (r : Reach) (b : Act A) → LastAct r key.End b → (x : A) (t : Tok) (m : List Tok) → act b [] ≡ Ok (x, t ∷ m) → ⊥
none_ok r (take f) h x t m k = end_not r h.0
none_ok r (stay f) h x t m k = let p = h.ok [] x t m k [] in nothing_shared p.1
none_ok r (refuse w) h x t m k = absurd cc

none_err : {A : Type 0} (r : Reach) (b : Act A) → LastAct r key.End b → (w : Why) (t : Tok) (m : List Tok) → act b [] ≡ Err (stop (t ∷ m) w) → ⊥
none_err r (take f) h w t m k = end_not r h.0
none_err r (stay f) h w t m k = let p = h.err [] w t m k [] in nothing_shared p.1
none_err r (refuse v) h w t m k = absurd cc

front_ok : {A : Type 0} (r : Reach) (d : Tok → Act A) → ((t : Tok) → LastAct r t.key (d t)) → (ts : List Tok) (x : A) (t : Tok) (m : List Tok) → on_front d ts ≡ Ok (x, t ∷ m) → (m' : List Tok) → Shared (on_front d) ts t m m' (Ok (x, t ∷ m'))
front_ok r d h [] x t m k m' = absurd (none_ok r (d (head [])) (h (head [])) x t m k)
front_ok r d h (u ∷ us) x t m k m' = acted_ok r d u us (d u) (h u) refl x t m k m'

front_err : {A : Type 0} (r : Reach) (d : Tok → Act A) → ((t : Tok) → LastAct r t.key (d t)) → (ts : List Tok) (w : Why) (t : Tok) (m : List Tok) → on_front d ts ≡ Err (stop (t ∷ m) w) → (m' : List Tok) → Shared (on_front d) ts t m m' (Err (stop (t ∷ m') w))
front_err r d h [] w t m k m' = absurd (none_err r (d (head [])) (h (head [])) w t m k)
front_err r d h (u ∷ us) w t m k m' = acted_err r d u us (d u) (h u) refl w t m k m'

act_took : {A : Type 0} (r : Reach) (b : Act A) (ts : List Tok) → LastAct r (head ts).key b → (x : A) (left : List Tok) → act b ts ≡ Ok (x, left) → Passes (taking r) ts left
act_took r (take f) [] h x left k = absurd (end_not r h.0)
act_took r (take f) (t ∷ ts) h x left k = over h.0 (h.1.took ts x left k)
act_took r (stay f) ts h x left k = h.took ts x left k
act_took r (refuse w) ts h x left k = absurd cc

act_stopped : {A : Type 0} (r : Reach) (b : Act A) (ts : List Tok) → LastAct r (head ts).key b → (left : List Tok) (w : Why) → act b ts ≡ Err (stop left w) → Passes (stopping r) ts left
act_stopped r (take f) [] h left w k = absurd (end_not r h.0)
act_stopped r (take f) (t ∷ ts) h left w k = over (h.2 ts left w k) (h.1.stopped ts left w k)
act_stopped r (stay f) ts h left w k = h.stopped ts left w k
act_stopped r (refuse v) ts h left w k = let p : ts ≡ left = cc in subst (λ (z : List Tok). Passes (stopping r) ts z) p stays

pub online_last : {A : Type 0} {r : Reach} (d : Tok → Act A) → ((t : Tok) → LastAct r t.key (d t)) → Online r (on_front d)
online_last {r = r} d h = record {
  took = λ ts x left e. act_took r (d (head ts)) ts (h (head ts)) x left e;
  stopped = λ ts left w e. act_stopped r (d (head ts)) ts (h (head ts)) left w e;
  ok = front_ok r d h;
  err = front_err r d h;
}

pub online_front : {A : Type 0} {r : Reach} (d : Tok → Act A) → ((t : Tok) → OnlineAct r t.key (d t)) → Online r (on_front d)
online_front {r = r} d h = online_last d (λ t. acts_last r t.key (d t) (h t))

-- a token is taken, and that is all
pub taken_last : {A : Type 0} (r : Reach) (k : Key) (a : A) → taking r k ≡ true → LastAct r k (taken a)
taken_last r k a e = (e, online_done a, (λ ts left w g. absurd cc))

-- ---- readers that take a token

-- a reader that leaves fewer tokens than there were
pub record Shrinks {A : Type 0} (f : List Tok → Result (A × List Tok) Refused) : Type 0 where
  pub less : (ts : List Tok) (x : A) (left : List Tok) → f ts ≡ Ok (x, left) → length left < length ts

-- an act that takes a token or refuses, or goes on with what takes one
abbrev pub Taking : {A : Type 0} → Reach → Key → Act A → Type 0
Taking r k (take f) = (stopping r k ≡ true) × Online r f
Taking r k (stay f) = Online r f × Shrinks f
Taking r k (refuse w) = Unit {0}

pub taking_online : {A : Type 0} (r : Reach) (k : Key) (b : Act A) → Taking r k b → OnlineAct r k b
taking_online r k (take f) h = h
taking_online r k (stay f) h = h.0
taking_online r k (refuse w) h = tt

pub once_taking : {A B : Type 0} (r : Reach) (k : Key) (o : Option A) (b : Act B) → Taking r k b → Taking r k (once o b)
once_taking r k None b h = h
once_taking r k (Some x) b h = tt

pub online_taking : {A : Type 0} {r : Reach} (d : Tok → Act A) → ((t : Tok) → Taking r t.key (d t)) → Online r (on_front d)
online_taking {r = r} d h = online_front d (λ t. taking_online r t.key (d t) (h t))

act_shrinks : {A : Type 0} (r : Reach) (b : Act A) (ts : List Tok) → Taking r (head ts).key b → (x : A) (left : List Tok) → act b ts ≡ Ok (x, left) → length left < length ts
act_shrinks r (take f) [] h x left k = absurd (end_not r (stopping_taking r key.End h.0))
act_shrinks r (take f) (t ∷ ts) h x left k = let l = online_less h.1 ts x left k in omega arith
act_shrinks r (stay f) ts h x left k = h.1.less ts x left k
act_shrinks r (refuse w) ts h x left k = absurd cc

pub front_shrinks : {A : Type 0} (r : Reach) (d : Tok → Act A) → ((t : Tok) → Taking r t.key (d t)) → Shrinks (on_front d)
front_shrinks r d h = record { less = λ ts x left e. act_shrinks r (d (head ts)) ts (h (head ts)) x left e }

-- a reader in front takes a token
pub chain_shrinks : {A B : Type 0} (r : Reach) (f : Reader A) (g : A → Reader B) → Shrinks f → ((a : A) → Online r (g a)) → Shrinks (chain f g)
chain_shrinks r f g s h = record {
  less = λ ts x left e.
      let b = bind_ok (f ts) (λ p. g p.0 p.1) (x, left) e in
      let l1 = s.less ts b.0.0 b.0.1 b.1 in
      let l2 = online_less (h b.0.0) b.0.1 x left b.2 in
      omega arith;
}

-- or one after it does
pub chain_shrinks_behind : {A B : Type 0} (r : Reach) (f : Reader A) (g : A → Reader B) → Online r f → ((a : A) → Shrinks (g a)) → Shrinks (chain f g)
chain_shrinks_behind r f g h s = record {
  less = λ ts x left e.
      let b = bind_ok (f ts) (λ p. g p.0 p.1) (x, left) e in
      let l1 = online_less h ts b.0.0 b.0.1 b.1 in
      let l2 = (s b.0.0).less b.0.1 x left b.2 in
      omega arith;
}

-- ---- phrases that may be absent

if_online : {A : Type 0} (r : Reach) (k : Key) (b : Bool) (x y : Act A) → OnlineAct r k x → OnlineAct r k y → OnlineAct r k (cond b x y)
if_online r k true x y p q = p
if_online r k false x y p q = q

pub online_perhaps : {A : Type 0} {r : Reach} (starts : Key → Bool) (f : Reader A) → Online (first r) f → Online r (perhaps starts f)
online_perhaps {r = r} starts f h = online_front (λ t. cond (starts t.key) (stay (chain f (λ x. done (Some x)))) (stay (done None)))
    (λ t. if_online r t.key (starts t.key) (stay (chain f (λ x. done (Some x)))) (stay (done None)) (online_chain f (λ x. done (Some x)) h (λ x. online_done (Some x))) (online_done None))

-- ---- loops

same_turn : {A : Type 0} (b : Bool) (ts : List Tok) (x : Act A) (f g : Reader A) → (f ts ≡ g ts) → act (cond b x (stay f)) ts ≡ act (cond b x (stay g)) ts
same_turn true ts x f g h = refl
same_turn false ts x f g h = h

same_bind : {A B : Type 0} (r : Result A Refused) (f g : A → Result B Refused) → ((x : A) → r ≡ Ok x → f x ≡ g x) → (r >>= f) ≡ (r >>= g)
same_bind (Ok x) f g h = h x refl
same_bind (Err d) f g h = refl

fuel_enough : {A : Type 0} (stops : Key → Bool) (last : A → Act A) (step : A → Reader A) (n m : ℕ) (a : A) (ts : List Tok) → ((a : A) → Shrinks (step a))
    → length ts < n → length ts < m → turns stops last step n a ts ≡ turns stops last step m a ts
unfolding turns
fuel_enough stops last step zero m a ts h lt1 lt2 = absurd (omega arith)
fuel_enough stops last step (suc n) zero a ts h lt1 lt2 = absurd (omega arith)
fuel_enough stops last step (suc n) (suc m) a ts h lt1 lt2 =
    same_turn (stops (head ts).key) ts (last a) (chain (step a) (turns stops last step n)) (chain (step a) (turns stops last step m))
    (same_bind (step a ts) (λ x. turns stops last step n x.0 x.1) (λ x. turns stops last step m x.0 x.1)
    (λ x e. let l : length x.1 < length ts = (h a).less ts x.0 x.1 e in fuel_enough stops last step n m x.0 x.1 h (omega arith) (omega arith)))

-- a loop of either kind, with as many turns as tokens
abbrev turns_all : {A : Type 0} → (Key → Bool) → (A → Act A) → (A → Reader A) → A → Reader A
turns_all stops last step a ts = turns stops last step (suc (length ts)) a ts

turns_go_on : {A : Type 0} (stops : Key → Bool) (last : A → Act A) (step : A → Reader A) (a b : A) (ts left : List Tok) → ((a : A) → Shrinks (step a))
    → stops (head ts).key ≡ false → step a ts ≡ Ok (b, left)
    → turns_all stops last step a ts ≡ turns_all stops last step b left
unfolding turns
turns_go_on stops last step a b ts left h e s =
    let l : length left < length ts = (h a).less ts b left s in
    rw (e, s) (fuel_enough stops last step (length ts) (suc (length left)) b left h l (omega arith))

-- what the answers of a loop cite: a step is read, the closing token is in front, a step is refused
pub until_goes_on : {A : Type 0} (stops : Key → Bool) (step : A → Reader A) (a b : A) (ts left : List Tok) → ((a : A) → Shrinks (step a))
    → stops (head ts).key ≡ false → step a ts ≡ Ok (b, left)
    → until_all stops step a ts ≡ until_all stops step b left
until_goes_on stops step a b ts left h e s = turns_go_on stops taken step a b ts left h e s

pub until_stops : {A : Type 0} (stops : Key → Bool) (step : A → Reader A) (a : A) (ts : List Tok)
    → stops (head ts).key ≡ true → until_all stops step a ts ≡ Ok (a, rest ts)
unfolding turns
until_stops stops step a ts e = rw e refl

pub until_fails : {A : Type 0} (stops : Key → Bool) (step : A → Reader A) (a : A) (ts : List Tok) (d : Refused)
    → stops (head ts).key ≡ false → step a ts ≡ Err d → until_all stops step a ts ≡ Err d
unfolding turns
until_fails stops step a ts d e s = rw (e, s) refl

-- the same three for a loop whose last token stays
pub up_to_goes_on : {A : Type 0} (stops : Key → Bool) (step : A → Reader A) (a b : A) (ts left : List Tok) → ((a : A) → Shrinks (step a))
    → stops (head ts).key ≡ false → step a ts ≡ Ok (b, left)
    → up_to_all stops step a ts ≡ up_to_all stops step b left
up_to_goes_on stops step a b ts left h e s = turns_go_on stops left_there step a b ts left h e s

pub up_to_stops : {A : Type 0} (stops : Key → Bool) (step : A → Reader A) (a : A) (ts : List Tok)
    → stops (head ts).key ≡ true → up_to_all stops step a ts ≡ Ok (a, ts)
unfolding turns
up_to_stops stops step a ts e = rw e refl

pub up_to_fails : {A : Type 0} (stops : Key → Bool) (step : A → Reader A) (a : A) (ts : List Tok) (d : Refused)
    → stops (head ts).key ≡ false → step a ts ≡ Err d → up_to_all stops step a ts ≡ Err d
unfolding turns
up_to_fails stops step a ts d e s = rw (e, s) refl

share_length : {ts ts' r r' : List Tok} → Share ts ts' r r' → length ts' ≤ length ts + length r'
share_length (here {r' = r'}) = omega arith
share_length (next s) = let l = share_length s in omega arith

-- fuel that depends on the tokens shares too: it is only above their number
online_turns_all : {A : Type 0} (r : Reach) (stops : Key → Bool) (last : A → Act A) (step : A → Reader A) → ((a : A) → Shrinks (step a)) → ((n : ℕ) (a : A) → Online r (turns stops last step n a)) → (a : A) → Online r (turns_all stops last step a)
online_turns_all r stops last step s h a = record {
  took = λ ts x left e. (h (suc (length ts)) a).took ts x left e;
  stopped = λ ts left w e. (h (suc (length ts)) a).stopped ts left w e;
  ok = λ ts x t m e m'.
      let big = suc (length ts + length (t ∷ m')) in
      let up : turns stops last step (suc (length ts)) a ts ≡ turns stops last step big a ts = fuel_enough stops last step (suc (length ts)) big a ts s (omega arith) (omega arith) in
      let p = (h big a).ok ts x t m (sym up ∙ e) m' in
      let l = share_length p.1 in
      (p.0, p.1, fuel_enough stops last step (suc (length p.0)) big a p.0 s (omega arith) (omega arith) ∙ p.2);
  err = λ ts w t m e m'.
      let big = suc (length ts + length (t ∷ m')) in
      let up : turns stops last step (suc (length ts)) a ts ≡ turns stops last step big a ts = fuel_enough stops last step (suc (length ts)) big a ts s (omega arith) (omega arith) in
      let p = (h big a).err ts w t m (sym up ∙ e) m' in
      let l = share_length p.1 in
      (p.0, p.1, fuel_enough stops last step (suc (length p.0)) big a p.0 s (omega arith) (omega arith) ∙ p.2);
}

out_of_turns : {A : Type 0} (r : Reach) → Online {A = A} r (λ ts. Err (stop ts why.Plain))
out_of_turns {A} r = record {
  took = λ ts x left e. absurd cc;
  stopped = λ ts left w e. let p : ts ≡ left = cc in subst (λ (z : List Tok). Passes (stopping r) ts z) p stays;
  ok = λ ts x t m e m'. absurd cc;
  err = λ ts w t m e m'. stopped ts w t m e m';
}
  where
    stopped : (ts : List Tok) (w : Why) (t : Tok) (m : List Tok) → ◌≡◌ {A = Result (A × List Tok) Refused} (Err (stop ts why.Plain)) (Err (stop (t ∷ m) w)) → (m' : List Tok) → (ts' : List Tok) × Share ts ts' (t ∷ m) (t ∷ m') × ◌≡◌ {A = Result (A × List Tok) Refused} (Err (stop ts' why.Plain)) (Err (stop (t ∷ m') w))
    stopped ts w t m e m' = let p : ts ≡ t ∷ m = cc in let q : why.Plain ≡ w = cc in (t ∷ m', rw p here, rw q refl)

close_acts : {A : Type 0} (r : Reach) (stops : Key → Bool) (k : Key) (a : A) (f : Reader A) → ((k : Key) → stops k ≡ true → taking r k ≡ true) → Online r f → (b : Bool) → stops k ≡ b → LastAct r k (cond b (taken a) (stay f))
close_acts r stops k a f closing h true e = taken_last r k a (closing k e)
close_acts r stops k a f closing h false e = h

online_until : {A : Type 0} (r : Reach) (stops : Key → Bool) (step : A → Reader A) → ((k : Key) → stops k ≡ true → taking r k ≡ true) → ((a : A) → Online (first r) (step a)) → (n : ℕ) (a : A) → Online r (turns stops taken step n a)
unfolding turns
online_until r stops step closing h zero a = out_of_turns r
online_until r stops step closing h (suc n) a = online_last (λ t. cond (stops t.key) (taken a) (stay (chain (step a) (turns stops taken step n))))
    (λ t. close_acts r stops t.key a (chain (step a) (turns stops taken step n)) closing (online_chain (step a) (turns stops taken step n) (h a) (λ b. online_until r stops step closing h n b)) (stops t.key) refl)

-- steps up to a closing token are online, if the steps are and take tokens; a line may be closed by its line end
pub online_until_all : {A : Type 0} {r : Reach} (stops : Key → Bool) (step : A → Reader A) → ((k : Key) → stops k ≡ true → taking r k ≡ true) → ((a : A) → Shrinks (step a)) → ((a : A) → Online (first r) (step a)) → (a : A) → Online r (until_all stops step a)
online_until_all {r = r} stops step closing s h a = online_turns_all r stops taken step s (online_until r stops step closing h) a

online_up_to : {A : Type 0} (r : Reach) (stops : Key → Bool) (step : A → Reader A) → ((a : A) → Online (first r) (step a)) → (n : ℕ) (a : A) → Online r (turns stops left_there step n a)
unfolding turns
online_up_to r stops step h zero a = out_of_turns r
online_up_to r stops step h (suc n) a = online_front (λ t. cond (stops t.key) (left_there a) (stay (chain (step a) (turns stops left_there step n))))
    (λ t. if_online r t.key (stops t.key) (left_there a) (stay (chain (step a) (turns stops left_there step n))) (online_done a) (online_chain (step a) (turns stops left_there step n) (h a) (λ b. online_up_to r stops step h n b)))

pub online_up_to_all : {A : Type 0} {r : Reach} (stops : Key → Bool) (step : A → Reader A) → ((a : A) → Shrinks (step a)) → ((a : A) → Online (first r) (step a)) → (a : A) → Online r (up_to_all stops step a)
online_up_to_all {r = r} stops step s h a = online_turns_all r stops left_there step s (online_up_to r stops step h) a

-- ---- the end of a line

ended_acts : {A : Type 0} (r : Reach) (x : A) → taking r key.LineEnd ≡ true → (k : Key) → LastAct r k (ended_by x k)
ended_acts r x e key.LineEnd = taken_last r key.LineEnd x e
ended_acts r x e _ = tt

pub online_ended : {A : Type 0} (x : A) → Online line (ended x)
online_ended x = online_last (λ t. ended_by x t.key) (λ t. ended_acts line x refl t.key)

pub ended_shrinks : {A : Type 0} (x : A) → Shrinks (ended x)
ended_shrinks {A = A} x = record { less = λ ts y left e. by_tokens ts (head ts).key refl y left e }
  where
    by_tokens : (ts : List Tok) (k : Key) → (head ts).key ≡ k → (y : A) (left : List Tok) → act (ended_by x k) ts ≡ Ok (y, left) → length left < length ts
    by_tokens [] key.LineEnd g y left e = absurd cc
    by_tokens (t ∷ ts) key.LineEnd g y left e = let p = ok_parts x y ts left e in omega (arith, ap length p.1)
    by_tokens ts _ g y left e = absurd (not_refused why.Plain ts (y, left) e)

-- ---- a whole text

share_shorter : {ts ts' r r' : List Tok} → Share ts ts' r r' → length r ≤ length ts
share_shorter here = omega arith
share_shorter (next s) = let l = share_shorter s in omega arith

share_whole : {ts x r r' : List Tok} → Share ts x r r' → ts ≡ r → x ≡ r'
share_whole here e = refl
share_whole (next p) e = let l = share_shorter p in absurd (omega (arith, ap length e))

share_next : {ts x r r' : List Tok} → Share ts x r r' → (t : Tok) (pre : List Tok) → ts ≡ t ∷ (pre ++ r) → (us : List Tok) × (x ≡ t ∷ us) × Share (pre ++ r) us r r'
share_next (here {r = r}) t pre e = absurd (omega (arith, ap length e, length-append pre r))
share_next (next {t = u} {ts = ts} {ts' = us} {r = r} {r' = r'} p) t pre e =
    let a : ◌≡◌ {A = Tok} u t = cc in
    let b : ts ≡ pre ++ r = cc in
    (us, ap (λ z. z ∷ us) a, subst (λ (z : List Tok). Share z us r r') b p)

share_append : (pre r r' x : List Tok) → Share (pre ++ r) x r r' → x ≡ pre ++ r'
share_append [] r r' x s = share_whole s refl
share_append (t ∷ pre) r r' x s = let n = share_next s t pre refl in n.1 ∙ ap (λ (z : List Tok). t ∷ z) (share_append pre r r' n.0 n.2)

-- what stops at a token stops there whatever follows it: no tokens with the same front are read
pub no_text : {A : Type 0} (r : Reach) (f : Reader A) → Online r f → (pre : List Tok) (t : Tok) (m m' : List Tok) (w : Why) (x : A) (left : List Tok)
    → f (pre ++ t ∷ m) ≡ Err (stop (t ∷ m) w) → f (pre ++ t ∷ m') ≡ Ok (x, left) → ⊥
no_text r f h pre t m m' w x left e k =
    let p = h.err (pre ++ t ∷ m) w t m e m' in
    let same : p.0 ≡ pre ++ t ∷ m' = share_append pre (t ∷ m) (t ∷ m') p.0 p.1 in
    let bad : f (pre ++ t ∷ m') ≡ Err (stop (t ∷ m') w) = ap f (sym same) ∙ p.2 in
    cc

-- the tokens have an end
pub data HasEnd : List Tok → Type 0 where
  end_here : {t : Tok} {ts : List Tok} → t.key ≡ key.End → HasEnd (t ∷ ts)
  end_behind : {t : Tok} {ts : List Tok} → HasEnd ts → HasEnd (t ∷ ts)

passes_apart : {p : Key → Bool} {ts left : List Tok} → ((p key.End ≡ true) → ⊥) → Passes p ts left → HasEnd ts → (pre : List Tok) × (t : Tok) × (m : List Tok) × (left ≡ t ∷ m) × (ts ≡ pre ++ t ∷ m) × AllKeys p pre × HasEnd left
passes_apart n stays (end_here {t = t} {ts = ts} e) = ([], t, ts, refl, refl, no_keys, end_here e)
passes_apart n stays (end_behind {t = t} {ts = ts} h) = ([], t, ts, refl, refl, no_keys, end_behind h)
passes_apart {p = p} n (over {t = t} g q) (end_here e) = absurd (n (ap p (sym e) ∙ g))
passes_apart n (over {t = t} g q) (end_behind h) = let b = passes_apart n q h in (t ∷ b.0, b.1, b.2, b.3, ap (λ (z : List Tok). t ∷ z) b.4, a_key g b.5, b.6)

stopping_no_end : (r : Reach) → stopping r key.End ≡ true → ⊥
stopping_no_end inside e = cc
stopping_no_end line e = cc
stopping_no_end across e = cc

-- where reading stops: a token, the tokens before it, whose keys the reader may pass, and those after it
pub stops_at : {A : Type 0} (r : Reach) (f : Reader A) → Online r f → (ts left : List Tok) (w : Why) → f ts ≡ Err (stop left w) → HasEnd ts
    → (pre : List Tok) × (t : Tok) × (m : List Tok) × (left ≡ t ∷ m) × (ts ≡ pre ++ t ∷ m) × AllKeys (stopping r) pre × HasEnd left
stops_at r f h ts left w e has = passes_apart (stopping_no_end r) (h.stopped ts left w e) has

-- and what is left after what was read
pub leaves : {A : Type 0} (r : Reach) (f : Reader A) → Online r f → (ts : List Tok) (x : A) (left : List Tok) → f ts ≡ Ok (x, left) → HasEnd ts
    → (pre : List Tok) × (t : Tok) × (m : List Tok) × (left ≡ t ∷ m) × (ts ≡ pre ++ t ∷ m) × AllKeys (taking r) pre × HasEnd left
leaves r f h ts x left e has = passes_apart (end_not r) (h.took ts x left e) has
