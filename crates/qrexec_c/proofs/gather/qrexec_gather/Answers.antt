use Rattle.std.proofs.Common.{rules, ◌≡◌, ◌≤◌, ◌+◌, ◌++◌, ◌%◌, ◌^◌, ℕ, List, length, take, drop, refl, sym, ◌∙◌, ap, subst, arith}
use Rattle.qrexec_frame.specs.Kinds.{number_of}
use Rattle.qrexec_c.specs.declared.reader.Reader.{Reader}
use Rattle.qrexec_frame.specs.Fronts.{front, made}
use Rattle.qrexec_frame.specs.Streams.{Short}
use Rattle.qrexec_frame.proofs.SpellingLaws.{kind_of_made}
use Rattle.qrexec_c.specs.Readers.{fault_in, IsNext, IsFault, Stands}
use Rattle.qrexec_c.specs.Gathers.{came, with_piece}
use Rattle.qrexec_c.proofs.Places.{body_there}
use Rattle.qrexec_c.proofs.Streams.{more_stands, next_message, fault_reads}
use Rattle.qrexec_c.proofs.gather.qrexec_gather.Goals.{then-piece-rest, else-piece-rest}
use Rattle.qrexec_c.proofs.GatherLaws.{goes_long, is_gather}
use Rattle.qrexec_c.proofs.gather.qrexec_gather.Goals as goal

pub returns-in-Ok-Some-clause-next : goal.returns-in-Ok-Some-clause-next
returns-in-Ok-Some-clause-next c = λ _ channel is.
    let same : c.in-Some.channel ≡ channel = cc in
    let filled : take (c.args.gather.now.got + c.if-piece-rest.count) c.fill.new.bytes ≡ with_piece c.args.gather.now c.args.piece.now c.if-piece-rest.count = search rules in
    let body = rw c.in-Ok-Some.field-0-is at c.in-Ok-Some.ensures in
    let moved : ℕ → Reader = λ n. record { at = (c.args.gather.now.reader.at + (8 + n)) % 2 ^ 64; kind = c.args.gather.now.reader.kind; len = c.args.gather.now.reader.len; channel = c.args.gather.now.reader.channel; fault = c.args.gather.now.reader.fault } in
    let P : List ℕ → Type 0 = λ b. IsNext channel b c.args.gather.now.reader (moved (length c.in-Ok-Some.body.bytes.now)) c.tell.result in (
      subst P filled (record {
        message = made c.in-Ok-Some.body.kind (take (length c.in-Ok-Some.body.bytes.now) (drop 8 (take (c.args.gather.now.got + c.if-piece-rest.count) c.fill.new.bytes)));
        whole = rw (← same, c.tell.ensures.len) (body_there c.in-Some.channel (take (c.args.gather.now.got + c.if-piece-rest.count) c.fill.new.bytes) c.in-Ok-Some.body body);
        kind_is = c.tell.ensures.kind ∙ ap number_of (sym (kind_of_made c.in-Ok-Some.body.kind _));
        tells = c.tell.ensures.tells;
        new_is = ap (λ n. moved n) (sym c.tell.ensures.len);
      }),
      refl,
    )

pub returns-in-Ok-Some-clause-stream_next : goal.returns-in-Ok-Some-clause-stream_next
returns-in-Ok-Some-clause-stream_next c = λ _ channel is stream given stands.
    next_message channel (with_piece c.args.gather.now c.args.piece.now c.if-piece-rest.count) c.args.gather.now.reader _ c.tell.result c.if-gather-ne0.false (returns-in-Ok-Some-clause-next c refl channel is).0
    (stream ++ take c.if-piece-rest.count c.args.piece.now) given
    (more_stands channel c.args.gather.now.reader (came c.args.gather.now) (take c.if-piece-rest.count c.args.piece.now) stream given c.if-gather-ne0.false stands)

pub returns-in-Err-clause-stream_fault : goal.returns-in-Err-clause-stream_fault
returns-in-Err-clause-stream_fault c = λ _ sound channel is stream given stands.
    let same : c.in-Some.channel ≡ channel = cc in
    let filled : take (c.args.gather.now.got + c.if-piece-rest.count) c.fill.new.bytes ≡ with_piece c.args.gather.now c.args.piece.now c.if-piece-rest.count = search rules in
    let found = rw (same, filled) at c.in-Err.ensures in
    let bad : IsFault channel (with_piece c.args.gather.now c.args.piece.now c.if-piece-rest.count) c.args.gather.now.reader c.faulted-gather.result =
    record { fault = found.0; bad = found.1; new_is = c.faulted-gather.ensures ∙ ap (λ f. fault_in c.args.gather.now.reader.channel f) found.2 } in
    fault_reads channel (with_piece c.args.gather.now c.args.piece.now c.if-piece-rest.count) c.args.gather.now.reader c.faulted-gather.result sound bad
    (stream ++ take c.if-piece-rest.count c.args.piece.now) given
    (more_stands channel c.args.gather.now.reader (came c.args.gather.now) (take c.if-piece-rest.count c.args.piece.now) stream given sound stands)

pub returns-in-Ok-Some-clause-taken : goal.returns-in-Ok-Some-clause-taken
returns-in-Ok-Some-clause-taken c = λ no. absurd (is_gather c.args.gather.now c.args.piece.now c.in-Some.channel (sym c.in-Some.ensures) c.if-gather-ne0.false (search rules) (omega (arith, c.if-until-got.false, c.until-until.ensures.until)) no)

pub returns-else-count-piece-clause-long : goal.returns-else-count-piece-clause-long
returns-else-count-piece-clause-long c = λ _ channel is.
    let same : c.in-Some.channel ≡ channel = cc in
    let filled : take (c.args.gather.now.got + c.if-piece-rest.count) c.fill.new.bytes ≡ with_piece c.args.gather.now c.args.piece.now c.if-piece-rest.count = search rules in
    let short : front channel (take (c.args.gather.now.got + c.if-piece-rest.count) c.fill.new.bytes) ≡ Short = rw (c.in-Ok-None.field-0-is, same) at c.in-Ok-None.ensures in
    let within : c.if-piece-rest.count ≤ length c.args.piece.now = omega arith in
    let rest : c.args.gather.now.got + c.if-piece-rest.count ≡ c.until-until.result = elim c.if-piece-rest.branch [
      | then-piece-rest w ↦ absurd (c.if-count-piece.false w.count-is)
      | else-piece-rest w ↦ omega (arith, w.count-is, c.if-until-got.false)
    ] in (
      record { came_is = filled; short = short; reader = refl; within = within },
      goes_long channel c.args.gather.now.bytes c.fill.new.bytes c.args.piece.now c.args.gather.now.got c.if-piece-rest.count (search rules) filled within (rest ∙ c.until-until.ensures.until) short,
    )

pub returns-else-count-piece-clause-stream_less : goal.returns-else-count-piece-clause-stream_less
returns-else-count-piece-clause-stream_less c = λ _ channel is stream given stands.
    let filled : take (c.args.gather.now.got + c.if-piece-rest.count) c.fill.new.bytes ≡ with_piece c.args.gather.now c.args.piece.now c.if-piece-rest.count = search rules in
    let P : List ℕ → Type 0 = λ b. Stands channel c.args.gather.now.reader b (stream ++ take c.if-piece-rest.count c.args.piece.now) given in
    subst P (sym filled) (more_stands channel c.args.gather.now.reader (came c.args.gather.now) (take c.if-piece-rest.count c.args.piece.now) stream given c.if-gather-ne0.false stands)
