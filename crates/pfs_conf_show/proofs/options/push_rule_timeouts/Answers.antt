-- Answer of push_rule_timeouts: one timeout more, if it is given, goes on with the list of options.
use Rattle.std.proofs.Common.{◌≡◌, ◌<◌, ℕ, List, length, get_or, ap, ◌∙◌}
use Rattle.std.specs.Prelude.{codes}
use Rattle.pfs_conf_values.specs.Timeouts.{timeout_names}
use Rattle.pfs_conf_values.specs.declared.timeouts.TimeoutName.TheVariants.{TcpFirst}
use Rattle.pfs_conf_show.specs.Pieces.{text_if_given, word_and_number}
use Rattle.pfs_conf_show.specs.Options.{rule_timeout_text}
use Rattle.pfs_conf_show.specs.Settings.{timeout_word}
use Rattle.pfs_conf_show.proofs.ListLaws.{flat_step, flat_begun}
use Rattle.pfs_conf_show.proofs.options.push_rule_timeouts.Goals as goal

pub loop-name-preserved : goal.loop-name-preserved
loop-name-preserved c =
    let i = c.loop-name.name-index in
    let within : i < length timeout_names = c.loop-name-test.true in
    let name = get_or timeout_names i TcpFirst in
    let texts = rule_timeout_text c.args.timeouts.now in
    let word : c.timeout_word.result.now ≡ timeout_word name = c.timeout_word.ensures in
    let ys : text_if_given (word_and_number c.timeout_word.result.now) c.get.result ≡ texts name =
    ap (λ (w : List ℕ). text_if_given (word_and_number w) c.get.result) word ∙ ap (text_if_given (word_and_number (timeout_word name))) c.get.ensures in
    record {
      text = flat_step (codes " (") texts timeout_names i TcpFirst c.args.out.now.items c.loop-name.out.items c.push_count.new.out.items c.args.begun c.loop-name.going
          (text_if_given (word_and_number c.timeout_word.result.now) c.get.result) within c.loop-name.invariant.text c.loop-name.invariant.begun ys c.in_ok-going.ensures.text;
      begun = flat_begun texts timeout_names i TcpFirst c.args.begun c.loop-name.going c.in_ok-going.going
          (text_if_given (word_and_number c.timeout_word.result.now) c.get.result) within c.loop-name.invariant.begun ys c.in_ok-going.ensures.begun;
    }
