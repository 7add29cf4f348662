-- Answers of tell_rules: of refused rules nothing is written, else what is wanted or a front of it (`tells`).
use Rattle.std.proofs.Common.{◌≡◌, [], ◌∙◌, ap, refl, Err}
use Rattle.pfs_cli.specs.Checks.{wanted_text}
use Rattle.pfs_cli.specs.declared.faults.ReplayFault.TheVariants as fault
use Rattle.pfs_cli.proofs.Checking.{nothing-written, text-written, unwritten-shows, write-failed, written-kind, written-shows}
use Rattle.pfs_streams.proofs.Flushing.{unwritten-flushed}
use Rattle.pfs_cli.proofs.Replaying.{told-refused}
use Rattle.pfs_cli.proofs.Telling.{Appends-nothing}
use Rattle.pfs_cli.proofs.checks.tell_rules.Goals as goal

pub returns-in-Err : goal.returns-in-Err
returns-in-Err g c = record {
  tells = record {
    answers = λ rs er. ([], Appends-nothing _, nothing-written (wanted_text c.args.wanted) rs c.in-Err.fault (c.in-Err.ensures.err rs er));
    refused = λ rs f er is. let same : c.in-Err.fault ≡ fault.Rules f = cc in told-refused rs c.in-Err.fault f (c.in-Err.ensures.err rs er) same;
    few = c.in-Err.ensures.few;
    read = λ is. let same : c.in-Err.fault ≡ fault.Read = cc in c.in-Err.ensures.read (ap Err same);
    endless = λ is. let same : c.in-Err.fault ≡ fault.Endless = cc in c.in-Err.ensures.endless (ap Err same);
    write = λ is. let same : c.in-Err.fault ≡ fault.Write = cc in absurd (c.in-Err.ensures.no_write same);
    memory = λ is. let same : c.in-Err.fault ≡ fault.Memory = cc in c.in-Err.ensures.memory (ap Err same);
    unwritten = λ f is. refl;
    bound = c.in-Err.ensures.bound;
    shows = λ owes. unwritten-shows c.args.out.now c.in-Err.fault owes;
    flushes = unwritten-flushed c.args.out.now;
  };
}

pub returns : goal.returns
returns g c = record {
  tells = record {
    answers = λ rs er. text-written (wanted_text c.args.wanted) rs c.in-Ok.config (c.in-Ok.ensures.ok rs er) c.as_slice.result.now (c.as_slice.ensures.value ∙ c.in-Ok-text_wanted.ensures) _ _ c.write_text.result
        c.write_text.ensures.ok c.write_text.ensures.err c.write_text.ensures.kind;
    refused = λ rs f er is. absurd (written-kind c.write_text.result (fault.Rules f) (λ e. absurd cc) c.write_text.ensures.kind is);
    few = c.in-Ok.ensures.few;
    read = λ is. absurd (written-kind c.write_text.result fault.Read (λ e. absurd cc) c.write_text.ensures.kind is);
    endless = λ is. absurd (written-kind c.write_text.result fault.Endless (λ e. absurd cc) c.write_text.ensures.kind is);
    write = λ is. write-failed c.write_text.result fault.Write c.write_text.ensures.fails is;
    memory = λ is. c.in-Ok.ensures.sound;
    unwritten = λ f is. absurd (written-kind c.write_text.result (fault.Rules f) (λ e. absurd cc) c.write_text.ensures.kind is);
    bound = c.in-Ok.ensures.bound;
    flushes = c.write_text.ensures.flushes;
    shows = λ owes. written-shows c.write_text.new.out c.write_text.result c.write_text.ensures.kind c.write_text.ensures.flushed;
  };
}
