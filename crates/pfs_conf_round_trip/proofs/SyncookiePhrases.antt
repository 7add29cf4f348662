-- The line of `set syncookies` is read again.
use Rattle.std.proofs.Common.{◌≡◌, ◌∙◌, ◌≤◌, ◌<◌, ◌^◌, ℕ, suc, List, [], ◌∷◌, ◌++◌, true, false, refl, sym, ap, subst, arith, append_assoc}
use Rattle.std.specs.Prelude.{codes, decimal}
use Rattle.pfs_conf_tokens.specs.Lexis.{tokens}
use Rattle.pfs_conf_tokens.specs.Tokens.{token}
use Rattle.pfs_conf_tokens.specs.Words.{key_of_text}
use Rattle.pfs_addr.proofs.PieceLaws.{decimal_lacks}
use Rattle.pfs_conf_tokens.proofs.ShownLaws.{breaks, decimal_text, key_of_decimal, number_of-decimal, split_around_append, word_then}
use Rattle.pfs_conf_tokens.proofs.WordKeys.{key_of_Adaptive, key_of_Always, key_of_EndWord, key_of_Set, key_of_Start, key_of_Syncookies}
use Rattle.pfs_conf_values.specs.declared.syncookies.Syncookies.TheVariants as cookies
use Rattle.pfs_conf_settings.specs.SyncookieGrammar.{ShareOf, SharesOf, always, comma, shared}
use Rattle.pfs_conf.specs.Grammar.{CookiesOf}
use Rattle.pfs_conf_show.specs.Settings.{syncookies_text}
use Rattle.pfs_conf_round_trip.proofs.Pieces.{at, line_end, mark, mark_space, text_append, word_first, word_space}

-- a share, in front of what ends a word
share : (line n : ℕ) (more : List ℕ) → n ≤ 100 → breaks more ≡ true → ShareOf (at line (decimal n ++ 37 ∷ more)) n (at line more)
share line n more h b =
    let w = decimal n ++ 37 ∷ [] in
    let small : n < 2 ^ 64 = omega (arith, h) in (
      token line (key_of_text w) w,
      ap (at line) (sym (append_assoc (decimal n) (37 ∷ []) more)) ∙ word_then true line w more (text_append (decimal n) (37 ∷ []) (decimal_text n small) refl) b,
      key_of_decimal n (37 ∷ []) small,
      record {
        digits = decimal n;
        percent = split_around_append 37 (decimal n) [] (decimal_lacks 37 n (omega arith) small);
        number = number_of-decimal n (omega (arith, h));
        bound = h;
      },
    )

pub always_line : (line : ℕ) (more : List ℕ) → CookiesOf (tokens 0 false line (syncookies_text cookies.Always ++ more)) cookies.Always (tokens 0 false (suc line) more)
always_line line more = record {
  a = at line (codes "syncookies always\n" ++ more);
  b = at line (codes "always\n" ++ more);
  c = at line (10 ∷ more);
  set = word_space false line (codes "set") (codes "syncookies always\n" ++ more) refl key_of_Set;
  word = word_space true line (codes "syncookies") (codes "always\n" ++ more) refl key_of_Syncookies;
  cookies = always (word_first true line (codes "always") (10 ∷ more) refl refl key_of_Always);
  ended = line_end true line more;
}

both_shares : (line start end : ℕ) (more : List ℕ) → start ≤ 100 → end ≤ 100
    → SharesOf (at line (codes "(start " ++ (decimal start ++ (codes "%, end " ++ (decimal end ++ (codes "%)\n" ++ more)))))) start end (at line (10 ∷ more))
both_shares line start end more h k =
    let y = decimal end ++ (codes "%)\n" ++ more) in
    let x = decimal start ++ (codes "%, end " ++ y) in
    record {
      a = at line (codes "start " ++ x);
      b = at line x;
      c = at line (codes ", end " ++ y);
      d = at line (codes "end " ++ y);
      e = at line y;
      f = at line (codes ")\n" ++ more);
      opens = mark true line 40 (codes "start " ++ x) refl;
      start_word = word_space true line (codes "start") x refl key_of_Start;
      start_share = share line start (codes ", end " ++ y) h refl;
      between = comma (mark_space true line 44 (codes "end " ++ y) refl);
      end_word = word_space true line (codes "end") y refl key_of_EndWord;
      end_share = share line end (codes ")\n" ++ more) k refl;
      closes = mark true line 41 (10 ∷ more) refl;
    }

parts : (a b c d e more : List ℕ) → (a ++ (b ++ (c ++ (d ++ e)))) ++ more ≡ a ++ (b ++ (c ++ (d ++ (e ++ more))))
parts a b c d e more = simp append_assoc

pub adaptive_line : (line start end : ℕ) (more : List ℕ) → start ≤ 100 → end ≤ 100
    → CookiesOf (tokens 0 false line (syncookies_text (cookies.Adaptive start end) ++ more)) (cookies.Adaptive start end) (tokens 0 false (suc line) more)
adaptive_line line start end more h k =
    let x = decimal start ++ (codes "%, end " ++ (decimal end ++ (codes "%)\n" ++ more))) in
    let P : List ℕ → Type 0 = λ z. CookiesOf (tokens 0 false line z) (cookies.Adaptive start end) (tokens 0 false (suc line) more) in
    subst P (sym (parts (codes "set syncookies adaptive (start ") (decimal start) (codes "%, end ") (decimal end) (codes "%)\n") more)) (record {
      a = at line (codes "syncookies adaptive (start " ++ x);
      b = at line (codes "adaptive (start " ++ x);
      c = at line (10 ∷ more);
      set = word_space false line (codes "set") (codes "syncookies adaptive (start " ++ x) refl key_of_Set;
      word = word_space true line (codes "syncookies") (codes "adaptive (start " ++ x) refl key_of_Syncookies;
      cookies = shared (word_space true line (codes "adaptive") (codes "(start " ++ x) refl key_of_Adaptive) (both_shares line start end more h k);
      ended = line_end true line more;
    })
