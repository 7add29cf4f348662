-- Answers of first_token: what a space, a comment, a joined line, a line end, a piece and the end leave.
use Rattle.std.proofs.Common.{◌≡◌, sym, ap, ◌∙◌, arith, add-one, length, true, false, ◌==◌, ◌&&◌, not, cond, [], ◌∷◌}
use Rattle.std.proofs.lemmas.Bool.{ne_eqb, and_left, and_right}
use Rattle.pfs_conf_tokens.specs.Tokens.{token}
use Rattle.pfs_conf_tokens.specs.Lexis.{tokens, in_front}
use Rattle.pfs_conf_tokens.proofs.LexisLaws.{tokens_space, tokens_line, tokens_comment, tokens_joined, tokens_piece, scan_ends}
use Rattle.pfs_conf_tokens.proofs.lexer.first_token.Goals as goal
use Rattle.pfs_conf_tokens.proofs.lexer.first_token.Goals.{else-b-eq92-via-then-b-eq92+else-is_line_feed, else-b-eq92-via-else-b-eq92, then-busy, else-busy}

pub loop-b-preserved-then-is_space : goal.loop-b-preserved-then-is_space
loop-b-preserved-then-is_space c =
    record {
      same = sym (tokens_space c.args.busy c.loop-b.line c.in-Some.b c.loop-b.rest.now c.in-Some.after.now c.in-Some.ensures (sym c.is_space.ensures ∙ c.if-is_space.true)) ∙ c.loop-b.invariant.same;
      room = omega (arith, ap length c.in-Some.ensures);
    }

pub returns-then-b-eq10-clause-tokens : goal.returns-then-b-eq10-clause-tokens
returns-then-b-eq10-clause-tokens c =
    rw (c.new.ensures, add-one) (sym (tokens_line c.args.busy c.loop-b.line c.in-Some.b c.loop-b.rest.now c.in-Some.after.now c.in-Some.ensures (sym c.is_space.ensures ∙ c.if-is_space.false) c.if-b-eq10.true) ∙ c.loop-b.invariant.same)

pub loop-b-preserved-then-b-eq35 : goal.loop-b-preserved-then-b-eq35
loop-b-preserved-then-b-eq35 c =
    record {
      same = rw (c.split_at.ensures.back, c.run_of.ensures.value) (sym (tokens_comment c.args.busy c.loop-b.line c.in-Some.b c.loop-b.rest.now c.in-Some.after.now c.in-Some.ensures (sym c.is_space.ensures ∙ c.if-is_space.false) c.if-b-eq35.true (omega (arith, c.run_of.ensures.value, c.run_of.ensures.within))) ∙ c.loop-b.invariant.same);
      room = omega (arith, ap length c.in-Some.ensures, c.split_at.ensures.back_len);
    }

pub loop-b-preserved : goal.loop-b-preserved
loop-b-preserved c =
    record {
      same = rw (c.split_at-then-is_line_feed.ensures.back, add-one) (sym (tokens_joined c.args.busy c.loop-b.line c.in-Some.b c.loop-b.rest.now c.in-Some.after.now c.in-Some.ensures (sym c.is_space.ensures ∙ c.if-is_space.false) c.if-b-eq92.true (sym c.is_line_feed.ensures.value ∙ c.if-is_line_feed.true) (omega (arith, c.split_at-then-is_line_feed.ensures.back_len))) ∙ c.loop-b.invariant.same);
      room = omega (arith, ap length c.in-Some.ensures, c.split_at-then-is_line_feed.ensures.back_len);
    }

pub returns-else-b-eq92-clause-tokens : goal.returns-else-b-eq92-clause-tokens
returns-else-b-eq92-clause-tokens c =
    let b = c.in-Some.b in
    let after = c.in-Some.after.now in
    let joined : (b == 92 && in_front 10 after) ≡ false = elim c.else-b-eq92.branch [
      | else-b-eq92-via-then-b-eq92+else-is_line_feed w ↦ and_right (b == 92) (in_front 10 after) (sym w.is_line_feed.ensures.value ∙ w.if-is_line_feed.false)
      | else-b-eq92-via-else-b-eq92 w ↦ and_left (b == 92) (in_front 10 after) (ne_eqb b 92 w.if-b-eq92.false)
    ] in
    rw c.scan_piece.ensures.tokens
    (sym (tokens_piece c.args.busy c.loop-b.line b c.loop-b.rest.now after c.in-Some.ensures (sym c.is_space.ensures ∙ c.if-is_space.false) (ne_eqb b 10 c.if-b-eq10.false) (ne_eqb b 35 c.if-b-eq35.false) joined c.scan_piece.ensures.within) ∙ c.loop-b.invariant.same)

pub returns-clause-tokens : goal.returns-clause-tokens
returns-clause-tokens c =
    let ends : token c.loop-b.line c.if-busy.key [] ∷ cond (not c.args.busy) [] (tokens 0 false c.loop-b.line c.loop-b.rest.now) ≡ tokens 0 c.args.busy c.loop-b.line c.loop-b.rest.now = elim c.if-busy.branch [
      | then-busy w ↦ scan_ends c.args.busy true c.loop-b.line c.if-busy.key c.loop-b.rest.now c.in_default.ensures w.if-busy.true w.key-is
      | else-busy w ↦ scan_ends c.args.busy false c.loop-b.line c.if-busy.key c.loop-b.rest.now c.in_default.ensures w.if-busy.false w.key-is
    ] in
    rw c.new-2.ensures (ends ∙ c.loop-b.invariant.same)
