use Rattle.std.proofs.Common.{◌≡◌, length, take, drop, sym, ap, ◌∙◌, refl}
use Rattle.qrexec_frame.specs.Kinds.{number_of}
use Rattle.qrexec_frame.specs.Fronts.{made}
use Rattle.qrexec_frame.proofs.SpellingLaws.{kind_of_made}
use Rattle.qrexec_c.specs.Readers.{fault_in}
use Rattle.qrexec_c.specs.Readers.{IsFault, IsLess}
use Rattle.qrexec_c.proofs.Places.{body_there}
use Rattle.qrexec_c.proofs.Streams.{less_reads, next_message, fault_reads, faulted_reads}
use Rattle.qrexec_c.proofs.reader.qrexec_next.Goals as goal

pub returns-in-Ok-Some-clause-next : goal.returns-in-Ok-Some-clause-next
returns-in-Ok-Some-clause-next c = λ _ channel is.
    let same : c.in-Some.channel ≡ channel = cc in
    let body = rw c.in-Ok-Some.field-0-is at c.in-Ok-Some.ensures in
    record {
      message = made c.in-Ok-Some.body.kind (take (length c.in-Ok-Some.body.bytes.now) (drop 8 c.args.bytes.now));
      whole = rw (← same, c.tell.ensures.len) (body_there c.in-Some.channel c.args.bytes.now c.in-Ok-Some.body body);
      kind_is = c.tell.ensures.kind ∙ ap number_of (sym (kind_of_made c.in-Ok-Some.body.kind (take (length c.in-Ok-Some.body.bytes.now) (drop 8 c.args.bytes.now))));
      tells = c.tell.ensures.tells;
      new_is = rw c.tell.ensures.len refl;
    }

pub returns-then-reader-le4-clause-stream_fault : goal.returns-then-reader-le4-clause-stream_fault
returns-then-reader-le4-clause-stream_fault c = λ _ channel is. faulted_reads channel c.args.bytes.now c.args.reader.now c.args.reader.now c.if-reader-ne0.true c.if-reader-le4.true refl

pub returns-in-Ok-None-clause-stream_less : goal.returns-in-Ok-None-clause-stream_less
returns-in-Ok-None-clause-stream_less c = λ _ channel is.
    let same : c.in-Some.channel ≡ channel = cc in
    let less : IsLess channel c.args.bytes.now c.args.reader.now c.args.reader.now = record { short = rw (c.in-Ok-None.field-0-is, same) at c.in-Ok-None.ensures; new_is = refl } in
    less_reads channel c.args.bytes.now c.args.reader.now c.args.reader.now c.if-reader-ne0.false less

pub returns-in-Ok-Some-clause-stream_next : goal.returns-in-Ok-Some-clause-stream_next
returns-in-Ok-Some-clause-stream_next c = λ _ channel is.
    next_message channel c.args.bytes.now c.args.reader.now _ c.tell.result c.if-reader-ne0.false (returns-in-Ok-Some-clause-next c refl channel is)

pub returns-in-Err-clause-stream_fault : goal.returns-in-Err-clause-stream_fault
returns-in-Err-clause-stream_fault c = λ _ channel is.
    let same : c.in-Some.channel ≡ channel = cc in
    let found = rw same at c.in-Err.ensures in
    let bad : IsFault channel c.args.bytes.now c.args.reader.now c.faulted.result = record { fault = found.0; bad = found.1; new_is = c.faulted.ensures ∙ ap (λ f. fault_in c.args.reader.now.channel f) found.2 } in
    fault_reads channel c.args.bytes.now c.args.reader.now c.faulted.result c.if-reader-ne0.false bad
