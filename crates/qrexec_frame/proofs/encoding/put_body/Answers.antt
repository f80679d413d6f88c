use Rattle.std.specs.Prelude.{◌≤◌, vec_len, vec_capacity}
use Rattle.std.proofs.Common.{subst, ◌+◌, length, ◌≡◌, ◌∙◌, ap, sym, List, ℕ, ◌++◌}
use Rattle.qrexec_frame.specs.declared.message.Message.{Message}
use Rattle.qrexec_frame.specs.Messages.{Fits, body_of}
use Rattle.qrexec_frame.proofs.WrittenLaws.{size_of, has_size}
use Rattle.qrexec_frame.proofs.encoding.put_body.Goals as goal

-- bytes put behind others are the body of the message that was matched
put_as : (old new bytes : List ℕ) (message this : Message) → new ≡ old ++ bytes → bytes ≡ body_of this → message ≡ this → new ≡ old ++ body_of message
put_as old new bytes message this put is matched = put ∙ ap (λ body. old ++ body) (is ∙ ap body_of (sym matched))

-- the room for a body is room for as many bytes as the message that was matched has
room_as : (len capacity : ℕ) (message this : Message) → len + length (body_of message) ≤ capacity → Fits message → message ≡ this → len + size_of this ≤ capacity
room_as len capacity message this room fits matched = subst (λ size. len + size ≤ capacity) (has_size message fits ∙ ap size_of matched) room

pub returns-in-Hello-clause-items : goal.returns-in-Hello-clause-items
returns-in-Hello-clause-items c = c.put_number.ensures.items ∙ ap (λ m. c.args.out.now.items ++ body_of m) (sym c.in-Hello.is)

pub returns-in-Stdin-clause-items : goal.returns-in-Stdin-clause-items
returns-in-Stdin-clause-items c = put_as c.args.out.now.items _ _ c.args.message.now _ c.put.ensures.items c.slice.ensures c.in-Stdin.is

pub returns-in-Stdout-clause-items : goal.returns-in-Stdout-clause-items
returns-in-Stdout-clause-items c = put_as c.args.out.now.items _ _ c.args.message.now _ c.put-in-Stdout.ensures.items c.slice-in-Stdout.ensures c.in-Stdout.is

pub returns-in-Stderr-clause-items : goal.returns-in-Stderr-clause-items
returns-in-Stderr-clause-items c = put_as c.args.out.now.items _ _ c.args.message.now _ c.put-in-Stderr.ensures.items c.slice-in-Stderr.ensures c.in-Stderr.is

pub returns-in-Exec-clause-items : goal.returns-in-Exec-clause-items
returns-in-Exec-clause-items c = c.put_line.ensures ∙ ap (λ m. c.args.out.now.items ++ body_of m) (sym c.in-Exec.is)

pub returns-in-JustExec-clause-items : goal.returns-in-JustExec-clause-items
returns-in-JustExec-clause-items c = c.put_line-in-JustExec.ensures ∙ ap (λ m. c.args.out.now.items ++ body_of m) (sym c.in-JustExec.is)

pub returns-in-Connect-clause-items : goal.returns-in-Connect-clause-items
returns-in-Connect-clause-items c = c.put_connect.ensures ∙ ap (λ m. c.args.out.now.items ++ body_of m) (sym c.in-Connect.is)

pub returns-in-Refused-clause-items : goal.returns-in-Refused-clause-items
returns-in-Refused-clause-items c = c.put_field.ensures.items ∙ ap (λ m. c.args.out.now.items ++ body_of m) (sym c.in-Refused.is)

pub returns-in-Trigger3-clause-items : goal.returns-in-Trigger3-clause-items
returns-in-Trigger3-clause-items c = c.put_trigger3.ensures ∙ ap (λ m. c.args.out.now.items ++ body_of m) (sym c.in-Trigger3.is)

pub returns-in-Trigger-clause-items : goal.returns-in-Trigger-clause-items
returns-in-Trigger-clause-items c = c.put_trigger.ensures ∙ ap (λ m. c.args.out.now.items ++ body_of m) (sym c.in-Trigger.is)

pub put_line-requires : goal.put_line-requires
put_line-requires c = room_as (vec_len c.args.out.now) (vec_capacity c.args.out.now) c.args.message.now _ c.requires.room c.requires.fits c.in-Exec.is

pub put_line-requires-in-JustExec : goal.put_line-requires-in-JustExec
put_line-requires-in-JustExec c = room_as (vec_len c.args.out.now) (vec_capacity c.args.out.now) c.args.message.now _ c.requires.room c.requires.fits c.in-JustExec.is

pub put_connect-requires-clause-room : goal.put_connect-requires-clause-room
put_connect-requires-clause-room c = room_as (vec_len c.args.out.now) (vec_capacity c.args.out.now) c.args.message.now _ c.requires.room c.requires.fits c.in-Connect.is

pub put_field-requires-clause-room : goal.put_field-requires-clause-room
put_field-requires-clause-room c = room_as (vec_len c.args.out.now) (vec_capacity c.args.out.now) c.args.message.now _ c.requires.room c.requires.fits c.in-Refused.is

pub put_trigger3-requires-clause-room : goal.put_trigger3-requires-clause-room
put_trigger3-requires-clause-room c = room_as (vec_len c.args.out.now) (vec_capacity c.args.out.now) c.args.message.now _ c.requires.room c.requires.fits c.in-Trigger3.is

pub put_trigger-requires-clause-room : goal.put_trigger-requires-clause-room
put_trigger-requires-clause-room c = room_as (vec_len c.args.out.now) (vec_capacity c.args.out.now) c.args.message.now _ c.requires.room c.requires.fits c.in-Trigger.is
