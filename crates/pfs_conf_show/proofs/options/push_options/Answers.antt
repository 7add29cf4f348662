-- Each option goes on with the list where the one before it left it.
use Rattle.std.proofs.Common.{◌≡◌, ℕ, List, Bool, false, ◌++◌, ap, ◌∙◌}
use Rattle.std.specs.Prelude.{codes}
use Rattle.pfs_conf_show.specs.Options.{option_texts, overload_text, rate_text, scope_text, sloppy_texts}
use Rattle.pfs_conf_show.specs.Pieces.{begun_after, closed_by, text_if_given, going_on, word_and_number}
use Rattle.pfs_conf_show.proofs.ListLaws.{behind, begun_then, goes_on, on_ok}
use Rattle.pfs_conf_show.proofs.options.push_options.Goals as goal

-- a list as far as it is written: its text, and whether it has begun
record Written (old new : List ℕ) (was now : Bool) (xs : List (List ℕ)) : Type 0 where
  text : new ≡ old ++ going_on (codes " (") was xs
  begun : now ≡ begun_after was xs

and_then : (old mid new : List ℕ) (begun now last : Bool) (xs ys : List (List ℕ)) → Written old mid begun now xs → Written mid new now last ys → Written old new begun last (xs ++ ys)
and_then old mid new begun now last xs ys h g = record {
  text = goes_on (codes " (") begun now xs ys old mid new h.text h.begun g.text;
  begun = begun_then begun now xs ys h.begun g.begun;
}

closed : (old mid new : List ℕ) (now : Bool) (xs : List (List ℕ)) → Written old mid false now xs → new ≡ mid ++ closed_by (codes ")") now
    → new ≡ old ++ (going_on (codes " (") false xs ++ closed_by (codes ")") (begun_after false xs))
closed old mid new now xs h e =
    behind old (going_on (codes " (") false xs) (closed_by (codes ")") (begun_after false xs)) h.text (e ∙ ap (λ (b : Bool). mid ++ closed_by (codes ")") b) h.begun)

pub returns : goal.returns
returns c =
    let o = c.args.options.now in
    let tables = c.args.config.now.tables in
    let all : Written c.args.out.now.items c.push_rule_timeouts.new.out.items false c.in_ok-begun-9.begun (option_texts tables o) =
    and_then _ _ _ _ _ _ (text_if_given (word_and_number (codes "max")) o.max) _ (record { text = c.in_ok-begun.ensures.text; begun = c.in_ok-begun.ensures.begun })
    (and_then _ _ _ _ _ _ (text_if_given scope_text o.scope) _ (record { text = c.in_ok-begun-2.ensures.text; begun = c.in_ok-begun-2.ensures.begun })
    (and_then _ _ _ _ _ _ (text_if_given (word_and_number (codes "max-src-nodes")) o.max_src_nodes) _ (record { text = c.in_ok-begun-3.ensures.text; begun = c.in_ok-begun-3.ensures.begun })
    (and_then _ _ _ _ _ _ (text_if_given (word_and_number (codes "max-src-states")) o.max_src_states) _ (record { text = c.in_ok-begun-4.ensures.text; begun = c.in_ok-begun-4.ensures.begun })
    (and_then _ _ _ _ _ _ (text_if_given (word_and_number (codes "max-src-conn")) o.max_src_conn) _ (record { text = c.in_ok-begun-5.ensures.text; begun = c.in_ok-begun-5.ensures.begun })
    (and_then _ _ _ _ _ _ (text_if_given rate_text o.max_src_conn_rate) _ (record { text = c.in_ok-begun-6.ensures.text; begun = c.in_ok-begun-6.ensures.begun })
    (and_then _ _ _ _ _ _ (text_if_given (overload_text tables) o.overload) _ (record { text = c.in_ok-begun-7.ensures.text; begun = c.in_ok-begun-7.ensures.begun })
    (and_then _ _ _ _ _ _ (sloppy_texts o.sloppy) _ (record { text = c.in_ok-begun-8.ensures.text; begun = c.in_ok-begun-8.ensures.begun })
    (record { text = c.in_ok-begun-9.ensures.text; begun = c.in_ok-begun-9.ensures.begun })))))))) in
    on_ok _ _ c.push_closing.result (closed c.args.out.now.items c.push_rule_timeouts.new.out.items c.push_closing.new.out.items c.in_ok-begun-9.begun (option_texts tables o) all) c.push_closing.ensures
