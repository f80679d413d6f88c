use Rattle.std.proofs.Common.{◌++◌, inl}
use Rattle.std.proofs.lemmas.Result.{err_from_is_err_and}
use Rattle.script_words.specs.LinesLeft.{lines_left}
use Rattle.script_words.proofs.LineLaws.{next_end, next_line}
use Rattle.stream_text.proofs.InputLaws.{begun_end, begun_good, good_line, is_good, read_all, read_bad, read_line, read_refused, refusal_decoded, same_error, text_decoded}
use Rattle.stream_text.proofs.decode.decode_text.Goals as goal

pub returns-in_err-number-clause-bad : goal.returns-in_err-number-clause-bad
returns-in_err-number-clause-bad c =
    let known = c.loop-listing.invariant in
    let p = err_from_is_err_and c.from_residual.result c.from_residual.ensures.1 in
    rw p.1
    (refusal_decoded c.args.channel c.args.bytes.now _
    (read_refused c.args.bytes.now (lines_left c.loop-listing.reader) (lines_left c.next.new.self) c.loop-listing.total known.bytes _ _ c.in_err-number.ensures p.2 known.read))

pub returns-in_err-total-clause-bad : goal.returns-in_err-total-clause-bad
returns-in_err-total-clause-bad c =
    let known = c.loop-listing.invariant in
    let p = err_from_is_err_and c.from_residual-in_err-total.result c.from_residual-in_err-total.ensures.1 in
    let next = next_line _ _ _ _ _ c.in_ok-number.ensures c.in-Line.is in
    rw (p.1, p.2) (refusal_decoded c.args.channel c.args.bytes.now _ (read_bad c.args.bytes.now _ _ _ c.loop-listing.total _ known.bytes _ next c.in_err-total.ensures.bad known.read))

pub returns-in_err-total-clause-memory : goal.returns-in_err-total-clause-memory
returns-in_err-total-clause-memory c = λ is.
    let known = c.loop-listing.invariant in
    let p = err_from_is_err_and c.from_residual-in_err-total.result c.from_residual-in_err-total.ensures.1 in
    let next = next_line _ _ _ _ _ c.in_ok-number.ensures c.in-Line.is in
    begun_good c.args.bytes.now _ _ _ c.loop-listing.total _ next (good_line _ _ c.in_err-total.ensures.bad (same_error p.0 _ _ p.2 (p.1) is)) known.begun

pub returns-in_err-into_text-clause-memory : goal.returns-in_err-into_text-clause-memory
returns-in_err-into_text-clause-memory c = λ is. begun_end c.args.bytes.now _ _ c.loop-listing.total (next_end _ _ _ _ c.in_ok-number.ensures c.in_default.is) c.loop-listing.invariant.begun

pub loop-listing-preserved : goal.loop-listing-preserved
loop-listing-preserved c =
    let known = c.loop-listing.invariant in
    let next = next_line _ _ _ _ _ c.in_ok-number.ensures c.in-Line.is in
    let taken = c.in_ok-total.ensures.taken in
    record {
      bytes = known.bytes ++ taken.0;
      gathers = taken.4 c.args.channel known.bytes known.gathers;
      read = rw taken.2 (read_line c.args.bytes.now _ _ _ c.loop-listing.total _ known.bytes taken.0 next taken.1 known.read);
      begun = inl (begun_good c.args.bytes.now _ _ _ c.loop-listing.total _ next (is_good _ _ taken.1) known.begun);
      total = taken.3;
    }

pub returns-clause-text : goal.returns-clause-text
returns-clause-text c =
    let known = c.loop-listing.invariant in
    text_decoded c.args.channel c.args.bytes.now known.bytes _
    (read_all c.args.bytes.now _ _ c.loop-listing.total known.bytes (next_end _ _ _ _ c.in_ok-number.ensures c.in_default.is) known.read)
    (c.in_ok-into_text.ensures c.args.channel known.bytes known.gathers)
