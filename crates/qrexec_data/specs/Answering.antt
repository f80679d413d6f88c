-- A side that serves: what it feeds its service, and what it sends of what the service gives.
use Rattle.std.specs.Prelude.{◌≡◌, ℕ, ℤ, ◌<◌, ◌==◌, min, nat_lt, Bool, true, List, [], ◌++◌, length, take, drop, Option, Some, None, IsSome, is_none, ◌&&◌, Result, Ok, Err, if◌then◌else◌}
use Rattle.qrexec_frame.specs.declared.message.Message.{Message}
use Rattle.qrexec_frame.specs.declared.message.Message.TheVariants.{Hello, Stdin, Stdout, Stderr, ExitCode}
use Rattle.qrexec_frame.specs.Messages.{written}
use Rattle.qrexec_hello.specs.Greeting.{greeting}
use Rattle.qrexec_hello.specs.declared.hello.HelloFault.{HelloFault}
use Rattle.service_gate.specs.Triple.{Triple, Feeds, Ends}
use Rattle.qrexec_data.specs.declared.outcome.SessionFault.{SessionFault}
use Rattle.qrexec_data.specs.declared.outcome.SessionFault.TheVariants as fault
use Rattle.qrexec_data.specs.declared.outcome.Outcome.{Outcome}
use Rattle.qrexec_data.specs.declared.outcome.Outcome.TheVariants.{Done, Fault}
use Rattle.qrexec_data.specs.Seeing.{Strays, number, serving_use}
use Rattle.qrexec_data.specs.Sending.{most}

-- what a side that serves keeps
pub record AnsweringState (S : Type 0) : Type 0 where
  -- its own version, the greatest number of bytes of one message, and the version that both sides go on with after they greeted
  pub own : ℕ
  pub chunk : ℕ
  pub version : Option ℕ
  -- the service, and its exit code once the input has ended
  pub service : S
  pub code : Option ℤ
  -- what the service gave on its outputs that no message carries yet
  pub out : List ℕ
  pub err : List ℕ
  -- whether the ends and the exit code stand in messages, and the bytes of messages that haven't gone
  pub closed : Bool
  pub waiting : List ℕ
  pub outcome : Option Outcome

-- ---- one message that was read

abbrev pub faulted : {S : Type 0} → SessionFault → AnsweringState S → AnsweringState S
faulted f a = record a { outcome = Some (Fault f) }

-- the greeting of the other side is answered by its own
abbrev pub after_greeting : {S : Type 0} → Result ℕ HelloFault → AnsweringState S → AnsweringState S
after_greeting (Ok version) a = record a { version = Some version; waiting = a.waiting ++ written (Hello a.own) }
after_greeting (Err f) a = faulted (fault.Hello f) a

-- bytes of the input went to the service
pub record FeedsOn {S : Type 0} (owes : S → List ℕ → Triple) (bytes : List ℕ) (old new : AnsweringState S) : Type 0 where
  pub feeds : Feeds (owes old.service) (owes new.service) bytes old.out new.out old.err new.err
  pub rest : new ≡ record old { service = new.service; out = new.out; err = new.err }

-- the end of the input went to the service
pub record EndsOn {S : Type 0} (owes : S → List ℕ → Triple) (old new : AnsweringState S) : Type 0 where
  pub code : ℤ
  pub ends : Ends (owes old.service []) code old.out new.out old.err new.err
  pub rest : new ≡ record old { service = new.service; code = Some code; out = new.out; err = new.err }

-- a message at an offset: the first must be a greeting, and only the input may follow, up to its end
pub data AnswersTo {S : Type 0} (owes : S → List ℕ → Triple) (m : Message) (at : ℕ) (old new : AnsweringState S) : Type 0 where
  Greets : old.version ≡ None → new ≡ after_greeting (greeting old.own m) old → AnswersTo owes m at old new
  Stray : IsSome old.version → serving_use m ≡ Strays → new ≡ faulted (fault.WrongSide at (number m)) old → AnswersTo owes m at old new
  Late : IsSome old.version → (bytes : List ℕ) → m ≡ Stdin bytes → IsSome old.code → new ≡ faulted (fault.AfterEnd at (number m)) old → AnswersTo owes m at old new
  Fed : IsSome old.version → (bytes : List ℕ) → m ≡ Stdin bytes → 0 < length bytes → old.code ≡ None → FeedsOn owes bytes old new → AnswersTo owes m at old new
  Ended : IsSome old.version → m ≡ Stdin [] → old.code ≡ None → EndsOn owes old new → AnswersTo owes m at old new

-- ---- one message that is sent

-- how many bytes the next message of an output carries
abbrev pub next_len : {S : Type 0} → ℕ → AnsweringState S → List ℕ → ℕ
next_len version a output = min (min a.chunk (most version)) (length output)

-- the messages that end a serving stream
abbrev pub end_bytes : ℤ → List ℕ
end_bytes code = written (Stdout []) ++ (written (Stderr []) ++ written (ExitCode code))

abbrev pub packed_end : {S : Type 0} → Option ℤ → AnsweringState S → AnsweringState S
packed_end None a = a
packed_end (Some code) a = if a.closed then a else record a { closed = true; waiting = a.waiting ++ end_bytes code }

-- the next bytes of the output, of the error output, or else the ends and the exit code, after what waits
abbrev pub packed_next : {S : Type 0} → ℕ → AnsweringState S → AnsweringState S
packed_next version a =
    if nat_lt 0 (length a.out) then record a { out = drop (next_len version a a.out) a.out; waiting = a.waiting ++ written (Stdout (take (next_len version a a.out) a.out)) }
    else if nat_lt 0 (length a.err) then record a { err = drop (next_len version a a.err) a.err; waiting = a.waiting ++ written (Stderr (take (next_len version a a.err) a.err)) }
    else packed_end a.code a

-- the next message, if a version is agreed on and none waits
abbrev pub packed_on : {S : Type 0} → Option ℕ → AnsweringState S → AnsweringState S
packed_on None a = a
packed_on (Some version) a = if length a.waiting == 0 then packed_next version a else a

-- this many of the bytes that wait have gone; after the very last byte the call is done
abbrev pub done_if : {S : Type 0} → Option ℤ → AnsweringState S → AnsweringState S
done_if None a = a
done_if (Some code) a = record a { outcome = Some (Done code) }

abbrev pub is_over : {S : Type 0} → AnsweringState S → Bool
is_over a = a.closed && (length a.waiting == 0) && is_none a.outcome

abbrev pub over_if : {S : Type 0} → AnsweringState S → AnsweringState S
over_if a = if is_over a then done_if a.code a else a

abbrev pub after_gone : {S : Type 0} → ℕ → AnsweringState S → AnsweringState S
after_gone count a = over_if (record a { waiting = drop count a.waiting })
