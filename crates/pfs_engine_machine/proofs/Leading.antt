-- How a packet goes on from the rules: in its own direction and protocol, and under its own key where none translates.
use Rattle.std.proofs.Common.{◌≡◌, ◌∙◌, ℕ, zero, suc, ◌+◌, ◌&&◌, ◌||◌, Bool, true, false, if◌then◌else◌, Option, Some, None, List, [], ◌∷◌, refl, ap, sym, subst, unwrap_or, slice_get, option_map}
use Rattle.std.specs.List.{AllByRecursion, list_any}
use Rattle.std.specs.Option.{option_and_then}
use Rattle.pfs_addr_values.specs.Keys.{first_end, key_of, second_end}
use Rattle.pfs_addr_values.specs.Packets.{PacketView}
use Rattle.pfs_addr_values.specs.declared.flag_sets.Flags.{Flags}
use Rattle.pfs_addr_values.specs.declared.packets.Dir.{Dir}
use Rattle.pfs_addr_values.specs.declared.packets.Dir.TheVariants as dir
use Rattle.pfs_addr_values.specs.declared.packets.FlowKey.{FlowKey}
use Rattle.pfs_addr_values.specs.declared.packets.TagNo.{TagNo}
use Rattle.pfs_conf_values.specs.Configs.{Conf, rule_in, translates, translates_in}
use Rattle.pfs_conf_values.specs.Translations.{translates_by}
use Rattle.pfs_conf_values.specs.declared.actions.Action.{Action}
use Rattle.pfs_conf_values.specs.declared.actions.Action.TheVariants as action
use Rattle.pfs_conf_values.specs.declared.items.Item.{Item}
use Rattle.pfs_conf_values.specs.declared.items.ItemKind.{ItemKind}
use Rattle.pfs_conf_values.specs.declared.items.ItemKind.TheVariants as what
use Rattle.pfs_conf_values.specs.declared.translations.NatTo.{NatTo}
use Rattle.pfs_conf_values.specs.declared.translations.RdrTo.{RdrTo}
use Rattle.pfs_conf_values.specs.declared.translations.Translation.{Translation}
use Rattle.pfs_eval.proofs.Translations.{untranslated}
use Rattle.pfs_eval.specs.Asking.{by_decision, by_match, decided_by, given_tag, made_by, marked_by, translation_at_once}
use Rattle.pfs_eval.specs.Translating.{TakenKeys, is_behind_nat, nat_by, nat_port, rdr_by, sent_from, translated}
use Rattle.pfs_eval.specs.Verdict.{Asking, PathPlace, behind_all, cut, cut_from, decider, enclosing, ends_before, hides, is_hit, is_shown, matches_rule, packet_at_cut, packet_behind, packet_past, passed_by, path_from, verdict}
use Rattle.pfs_engine_machine.specs.Guards.{asked, syn_alone}
use Rattle.pfs_engine_machine.specs.Machine.{MachineContents, asking_of, packet_ruled}
use Rattle.pfs_engine_machine.specs.Sides.{is_taken_on}
use Rattle.pfs_engine_machine.proofs.KeptAdmission.{IsLedOn}

-- ---- a fact of a packet that rules keep, each of which is such, is one of the packet that they leave

record IsKeptByRules (a : Asking) (P : PacketView → Type 0) (R : Item → Type 0) : Type 0 where
  marked : (q : PacketView) (i : Item) → R i → P q → P (a.marked q i)
  passed : (q r : PacketView) (i : Item) → R i → P q → a.passed q i ≡ Some r → P r

-- of a place
abbrev IsKeptAt : (PacketView → Type 0) → (Item → Type 0) → PathPlace → Type 0
IsKeptAt P R x = P x.packet × R x.item

past : (a : Asking) (P : PacketView → Type 0) (R : Item → Type 0) → IsKeptByRules a P R → (q : PacketView) (i : Item) → R i → P q → P (packet_past a q i)
past a P R k q i r h = by (matches_rule a q i)
  where
    by : (b : Bool) → P (if b then a.marked q i else q)
    by true = k.marked q i r h
    by false = h

on-path : (a : Asking) (P : PacketView → Type 0) (R : Item → Type 0) → IsKeptByRules a P R → (q : PacketView) (hidden : Option ℕ) (before : List Item) (n : ℕ) (items : List Item)
    → AllByRecursion R items → P q → AllByRecursion (IsKeptAt P R) (path_from a q hidden before n items)
unfolding path_from
on-path a P R k q hidden before n [] all h = tt
on-path a P R k q hidden before n (i ∷ rest) all h =
    by (is_shown hidden i.depth)
    (on-path a P R k (packet_past a q i) (hides (a.holds q i) i.depth) (i ∷ before) (n + 1) rest all.1 (past a P R k q i all.0 h))
    (on-path a P R k q hidden (i ∷ before) (n + 1) rest all.1 h)
  where
    shown : List PathPlace
    shown = path_from a (packet_past a q i) (hides (a.holds q i) i.depth) (i ∷ before) (n + 1) rest

    hidden_too : List PathPlace
    hidden_too = path_from a q hidden (i ∷ before) (n + 1) rest

    by : (b : Bool) → AllByRecursion (IsKeptAt P R) shown → AllByRecursion (IsKeptAt P R) hidden_too
        → AllByRecursion (IsKeptAt P R) (if b then record { no = n; item = i; packet = q; around = enclosing i.depth before; after = rest } ∷ shown else hidden_too)
    by true there elsewhere = ((h, all.0), there)
    by false there elsewhere = elsewhere

on-cut : (a : Asking) (Q : PathPlace → Type 0) (seen xs : List PathPlace) → AllByRecursion Q xs → AllByRecursion Q (cut_from a seen xs)
on-cut a Q seen [] all = tt
on-cut a Q seen (x ∷ rest) all = by (list_any (λ (r : PathPlace). is_hit a r && ends_before a x r) seen) (on-cut a Q (x ∷ seen) rest all.1)
  where
    by : (b : Bool) → AllByRecursion Q (cut_from a (x ∷ seen) rest) → AllByRecursion Q (if b then [] else x ∷ cut_from a (x ∷ seen) rest)
    by true more = tt
    by false more = (all.0, more)

behind : (a : Asking) (P : PacketView → Type 0) (R : Item → Type 0) → IsKeptByRules a P R → (q : PacketView) (xs : List PathPlace) → P q → AllByRecursion (IsKeptAt P R) xs
    → P (behind_all a q xs)
behind a P R k q [] h all = h
behind a P R k q (x ∷ xs) h all = behind a P R k (packet_past a x.packet x.item) xs (past a P R k x.packet x.item all.0.1 all.0.0) all.1

each-there : {X : Type 0} (R : X → Type 0) (xs : List X) (n : ℕ) (x : X) → AllByRecursion R xs → slice_get xs n ≡ Some x → R x
each-there R [] n x all e = cc
each-there R (y ∷ ys) zero x all e = let same : y ≡ x = cc in subst R same all.0
each-there R (y ∷ ys) (suc n) x all e = each-there R ys n x all.1 e

decider-there : (items : List Item) (R : Item → Type 0) → AllByRecursion R items → (n : Option ℕ) (i : Item) → option_and_then (slice_get items) n ≡ Some i → R i
decider-there items R all None i e = cc
decider-there items R all (Some n) i e = each-there R items n i all e

at-cut : (a : Asking) (P : PacketView → Type 0) (R : Item → Type 0) → IsKeptByRules a P R → (q : PacketView) (items : List Item) → AllByRecursion R items → P q
    → P (packet_at_cut a q items)
unfolding packet_at_cut
at-cut a P R k q items all h = behind a P R k q (cut a q items) h (on-cut a (IsKeptAt P R) [] _ (on-path a P R k q None [] 0 items all h))

kept-behind : (a : Asking) (P : PacketView → Type 0) (R : Item → Type 0) → IsKeptByRules a P R → (q : PacketView) (items : List Item) → AllByRecursion R items → P q
    → P (packet_behind a q items)
unfolding packet_behind
kept-behind a P R k q items all h = by (decider a q items) refl
  where
    there : P (packet_at_cut a q items)
    there = at-cut a P R k q items all h

    made : (i : Item) → R i → (r : Option PacketView) → a.passed (packet_at_cut a q items) i ≡ r → P (unwrap_or r (packet_at_cut a q items))
    made i of None e = there
    made i of (Some r) e = k.passed (packet_at_cut a q items) r i of there e

    by : (d : Option Item) → decider a q items ≡ d → P (unwrap_or (passed_by a (packet_at_cut a q items) d) (packet_at_cut a q items))
    by None e = there
    by (Some i) e = made i (decider-there items R all (verdict a q items) i e) (a.passed (packet_at_cut a q items) i) refl

-- ---- a translation leaves the direction and the protocol

abbrev IsAlike : PacketView → PacketView → Type 0
IsAlike p q = (q.dir ≡ p.dir) × (q.proto ≡ p.proto)

same-alike : (p q r : PacketView) → q ≡ r → IsAlike p q → IsAlike p r
same-alike p q r e h = subst (IsAlike p) e h

nat-alike : (taken : TakenKeys) (n : Option NatTo) (p q m : PacketView) → nat_by taken n q ≡ Some m → IsAlike p q → IsAlike p m
unfolding nat_by
nat-alike taken None p q m e h = let same : q ≡ m = cc in same-alike p q m same h
nat-alike taken (Some n) p q m e h = by (is_behind_nat n q) e
  where
    from : (o : Option ℕ) → option_map (sent_from q n.addr) o ≡ Some m → IsAlike p m
    from None e = cc
    from (Some port) e = let same : sent_from q n.addr port ≡ m = cc in same-alike p (sent_from q n.addr port) m same h

    by : (b : Bool) → (if b then Some q else option_map (sent_from q n.addr) (nat_port taken n q)) ≡ Some m → IsAlike p m
    by true e = let same : q ≡ m = cc in same-alike p q m same h
    by false e = from (nat_port taken n q) e

rdr-alike : (r : Option RdrTo) (p q : PacketView) → IsAlike p q → IsAlike p (rdr_by r q)
unfolding rdr_by
rdr-alike None p q h = h
rdr-alike (Some r) p q h = h

translated-alike : (taken : TakenKeys) (t : Translation) (p q m : PacketView) → translated taken t q ≡ Some m → IsAlike p q → IsAlike p m
unfolding translated
translated-alike taken t p q m e h = by (nat_by taken t.nat_to q) refl e
  where
    by : (o : Option PacketView) → nat_by taken t.nat_to q ≡ o → option_map (rdr_by t.rdr_to) o ≡ Some m → IsAlike p m
    by None f e = cc
    by (Some n) f e = let same : rdr_by t.rdr_to n ≡ m = cc in same-alike p (rdr_by t.rdr_to n) m same (rdr-alike t.rdr_to p n (nat-alike taken t.nat_to p q n f h))

made-alike : (taken : TakenKeys) (given : Option TagNo) (kind : ItemKind) (p q : PacketView) → IsAlike p q → IsAlike p (made_by taken given kind q)
made-alike taken given kind p q h = by (translated taken (translation_at_once kind) (marked_by given q)) refl
  where
    by : (o : Option PacketView) → translated taken (translation_at_once kind) (marked_by given q) ≡ o → IsAlike p (unwrap_or o (marked_by given q))
    by None e = h
    by (Some m) e = translated-alike taken (translation_at_once kind) p (marked_by given q) m e h

decided-alike : (taken : TakenKeys) (kind : ItemKind) (p q m : PacketView) → decided_by taken kind q ≡ Some m → IsAlike p q → IsAlike p m
decided-alike taken (what.Anchor a) p q m e h = let same : q ≡ m = cc in same-alike p q m same h
decided-alike taken (what.Rule r) p q m e h = by r.action e
  where
    by : (x : Action) → by_decision taken x r.translation q ≡ Some m → IsAlike p m
    by action.Match e = cc
    by action.Block e = let same : q ≡ m = cc in same-alike p q m same h
    by action.Pass e = translated-alike taken r.translation p q m e h
    by (action.Keep o) e = translated-alike taken r.translation p q m e h

-- any item will do
abbrev IsAny : Item → Type 0
IsAny i = Unit {0}

any-item : (items : List Item) → AllByRecursion IsAny items
any-item [] = tt
any-item (i ∷ is) = (tt, any-item is)

alike-behind : (conf : Conf) (h : MachineContents) (p : PacketView) → IsAlike p (packet_ruled conf h p)
alike-behind conf h p = kept-behind (asking_of conf h) (IsAlike p) IsAny (record {
  marked = λ q i any same. made-alike (is_taken_on h.world) (given_tag conf.items i.what) i.what p q same;
  passed = λ q m i any same e. decided-alike (is_taken_on h.world) i.what p q m e same;
}) p conf.items (any-item conf.items) (refl, refl)

-- ---- where no rule translates, a packet keeps its key

abbrev HasKey : FlowKey → PacketView → Type 0
HasKey key q = key_of q ≡ key

-- the item translates nothing
abbrev IsUntranslating : Item → Type 0
IsUntranslating i = translates_in (rule_in i.what) ≡ false

each-untranslating : (items : List Item) → list_any (λ (i : Item). translates_in (rule_in i.what)) items ≡ false → AllByRecursion IsUntranslating items
each-untranslating [] h = tt
each-untranslating (i ∷ is) h = by (translates_in (rule_in i.what)) refl h (each-untranslating is)
  where
    some : Bool
    some = list_any (λ (j : Item). translates_in (rule_in j.what)) is

    by : (b : Bool) → translates_in (rule_in i.what) ≡ b → (b || some) ≡ false → (some ≡ false → AllByRecursion IsUntranslating is) → AllByRecursion IsUntranslating (i ∷ is)
    by true e h rest = absurd cc
    by false e h rest = (e, rest h)

key-marked : (given : Option TagNo) (q : PacketView) → key_of (marked_by given q) ≡ key_of q
key-marked given q = by q.dir
  where
    by : (d : Dir) → ◌≡◌ {A = FlowKey} (record { proto = q.proto; a = first_end d (marked_by given q); b = second_end d (marked_by given q) })
        (record { proto = q.proto; a = first_end d q; b = second_end d q })
    by dir.In = refl
    by dir.Out = refl

at-once-untranslating : (kind : ItemKind) → translates_in (rule_in kind) ≡ false → translates_by (translation_at_once kind) ≡ false
at-once-untranslating (what.Anchor a) h = refl
at-once-untranslating (what.Rule r) h = by r.action
  where
    by : (x : Action) → translates_by (by_match x r.translation) ≡ false
    by action.Match = h
    by action.Block = refl
    by action.Pass = refl
    by (action.Keep o) = refl

made-key : (taken : TakenKeys) (given : Option TagNo) (kind : ItemKind) (key : FlowKey) (q : PacketView) → translates_in (rule_in kind) ≡ false → HasKey key q
    → HasKey key (made_by taken given kind q)
made-key taken given kind key q none h =
    ap (λ (o : Option PacketView). key_of (unwrap_or o (marked_by given q))) (untranslated taken (translation_at_once kind) (marked_by given q) (at-once-untranslating kind none))
    ∙ key-marked given q ∙ h

decided-key : (taken : TakenKeys) (kind : ItemKind) (key : FlowKey) (q m : PacketView) → translates_in (rule_in kind) ≡ false → HasKey key q → decided_by taken kind q ≡ Some m
    → HasKey key m
decided-key taken (what.Anchor a) key q m none h e = let same : q ≡ m = cc in subst (HasKey key) same h
decided-key taken (what.Rule r) key q m none h e = by r.action e
  where
    plain : translated taken r.translation q ≡ Some m → HasKey key m
    plain e = let there : Some q ≡ Some m = sym (untranslated taken r.translation q none) ∙ e in let same : q ≡ m = cc in subst (HasKey key) same h

    by : (x : Action) → by_decision taken x r.translation q ≡ Some m → HasKey key m
    by action.Match e = cc
    by action.Block e = let same : q ≡ m = cc in subst (HasKey key) same h
    by action.Pass e = plain e
    by (action.Keep o) e = plain e

key-behind : (conf : Conf) (h : MachineContents) (p : PacketView) → translates conf ≡ false → key_of (packet_ruled conf h p) ≡ key_of p
key-behind conf h p none = kept-behind (asking_of conf h) (HasKey (key_of p)) IsUntranslating (record {
  marked = λ q i plain same. made-key (is_taken_on h.world) (given_tag conf.items i.what) i.what (key_of p) q plain same;
  passed = λ q m i plain same e. decided-key (is_taken_on h.world) i.what (key_of p) q m plain same e;
}) p conf.items (each-untranslating conf.items none) refl

-- ---- of a packet, or of the SYN whose cookie it brings

asked-alike : (p : PacketView) (cookie : Bool) → IsAlike p (asked p cookie)
asked-alike p true = (refl, refl)
asked-alike p false = (refl, refl)

-- the flags are not in its key
pub flagged-key : (p : PacketView) (flags : Flags) → key_of (record p { flags = flags }) ≡ key_of p
flagged-key p flags = by p.dir
  where
    by : (d : Dir) → ◌≡◌ {A = FlowKey} (record { proto = p.proto; a = first_end d (record p { flags = flags }); b = second_end d (record p { flags = flags }) })
        (record { proto = p.proto; a = first_end d p; b = second_end d p })
    by dir.In = refl
    by dir.Out = refl

asked-key : (p : PacketView) (cookie : Bool) → key_of (asked p cookie) ≡ key_of p
asked-key p false = refl
asked-key p true = flagged-key p syn_alone

pub led_on : (conf : Conf) (h : MachineContents) (p : PacketView) (cookie : Bool) → IsLedOn conf p (packet_ruled conf h (asked p cookie))
led_on conf h p cookie =
    let alike : IsAlike (asked p cookie) (packet_ruled conf h (asked p cookie)) = alike-behind conf h (asked p cookie) in
    let own : IsAlike p (asked p cookie) = asked-alike p cookie in
    record {
      dir = alike.0 ∙ own.0;
      proto = alike.1 ∙ own.1;
      key = λ none. key-behind conf h (asked p cookie) none ∙ asked-key p cookie;
    }
