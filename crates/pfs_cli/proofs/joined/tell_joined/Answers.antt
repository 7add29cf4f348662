-- Answers of tell_joined: what is written is that of the two parts of the joined text (`tells`), and so is the tally (`tallies`), or its
-- rules are refused (`refuses`, `kinds`).
use Rattle.std.proofs.Common.{◌≡◌, Some, ℕ, List, [], Option, refl}
use Rattle.std.specs.Io.Buffered.{reader_remaining, reader_buffer, reader_inner, reader_capacity}
use Rattle.std.specs.declared.io.buffered.BufReader.{BufReader}
use Rattle.pfs_streams.specs.Joined.{split_joined}
use Rattle.pfs_cli.proofs.Replaying.{kept-reads, kept-refuses, refuses-halt}
use Rattle.pfs_cli.proofs.joined.tell_joined.Goals as goal

-- a new buffered reader holds what the reader under it does
fresh_holds : {T A : Type 0} (rem : T → Option (List ℕ)) (r : BufReader T A) (inner : T) (xs : List ℕ) → reader_inner r ≡ inner → reader_buffer r ≡ [] → reader_capacity r ≡ 8192 → rem inner ≡ Some xs
    → reader_remaining rem r ≡ Some xs
fresh_holds rem r inner xs i b n e = rw (n, b, i, e) refl

pub returns-in-Ok-load_config-clause-tells : goal.returns-in-Ok-load_config-clause-tells
returns-in-Ok-load_config-clause-tells g c xs e =
    let start = fresh_holds g.S.Read.remaining c.in-Ok.reader _ xs c.in-Ok.ensures.inner c.in-Ok.ensures.empty c.in-Ok.ensures.capacity e in
    let conf = c.in-Ok-load_config.config in
    let known = kept-reads c.in-Ok-read_joined.text.items (split_joined xs).0 conf (c.in-Ok-read_joined.ensures.rules xs start) c.in-Ok-load_config.ensures.ok in
    let trace = c.in-Ok-read_joined.ensures.trace xs start c.in-Ok-load_config.ensures.ok.short in
    let (t, grown, told) = c.write_report.ensures.tells (split_joined xs).1 trace in
    (t, grown, (conf, known, told))

pub returns-in-Err-clause-refuses : goal.returns-in-Err-clause-refuses
returns-in-Err-clause-refuses g c xs e =
    let start = fresh_holds g.S.Read.remaining c.in-Ok.reader _ xs c.in-Ok.ensures.inner c.in-Ok.ensures.empty c.in-Ok.ensures.capacity e in
    kept-refuses c.in-Ok-read_joined.text.items (split_joined xs).0 c.in-Err.fault (c.in-Ok-read_joined.ensures.rules xs start) c.in-Err.ensures.err

pub returns-in-Err-clause-kinds : goal.returns-in-Err-clause-kinds
returns-in-Err-clause-kinds g c = refuses-halt c.in-Ok-read_joined.text.items c.in-Err.fault c.in-Err.ensures.err

pub returns-in-Ok-load_config-clause-tallies : goal.returns-in-Ok-load_config-clause-tallies
returns-in-Ok-load_config-clause-tallies g c xs e =
    let start = fresh_holds g.S.Read.remaining c.in-Ok.reader _ xs c.in-Ok.ensures.inner c.in-Ok.ensures.empty c.in-Ok.ensures.capacity e in
    let conf = c.in-Ok-load_config.config in
    let known = kept-reads c.in-Ok-read_joined.text.items (split_joined xs).0 conf (c.in-Ok-read_joined.ensures.rules xs start) c.in-Ok-load_config.ensures.ok in
    let trace = c.in-Ok-read_joined.ensures.trace xs start c.in-Ok-load_config.ensures.ok.short in
    let (t, grown, is) = c.write_report.ensures.tallies (split_joined xs).1 trace in
    (t, grown, (conf, known, is))
