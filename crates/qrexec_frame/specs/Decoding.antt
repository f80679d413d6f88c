-- What a decoder answers, of the bytes it holds and of all bytes that it was fed.
use Rattle.std.specs.Prelude.{◌≡◌, ℕ, ◌+◌, ◌%◌, ◌^◌, ◌≤◌, nat_le, if◌then◌else◌, List, [], ◌∷◌, ◌++◌, length, take, drop, Option, Some, None, Result, Ok, Err}
use Rattle.list_laws.specs.Lists.{IsPrefixOf}
use Rattle.qrexec_frame.specs.declared.kind.Channel.{Channel}
use Rattle.qrexec_frame.specs.declared.fault.FrameFault.{FrameFault}
use Rattle.qrexec_frame.specs.declared.fault.NextError.{NextError}
use Rattle.qrexec_frame.specs.declared.fault.NextError.TheVariants as error
use Rattle.qrexec_frame.specs.declared.message.Message.{Message}
use Rattle.qrexec_frame.specs.Grammar.{Fault, Spelled, Shows, IsBegun}
use Rattle.qrexec_frame.specs.Fronts.{front, reading, fault_at}
use Rattle.qrexec_frame.specs.Streams.{Whole, Bad, Short, Placed, Rest, FaultAt}

-- a decoder: its channel, how many of the bytes given out it still holds, the bytes not yet given out, the
-- offset of the first of them modulo 2 ^ 64, and the fault that it has answered
pub record DecoderState : Type 0 where
  pub channel : Channel
  pub passed : ℕ
  pub left : List ℕ
  pub at : ℕ
  pub fault : Option FrameFault

-- how many bytes a decoder holds
abbrev pub held : DecoderState → ℕ
held d = d.passed + length d.left

-- a decoder that gave out this many bytes more
abbrev pub after_message : DecoderState → ℕ → DecoderState
after_message d n = record d { passed = d.passed + n; left = drop n d.left; at = (d.at + n) % 2 ^ 64 }

-- a decoder that was fed a piece: if it held at least as many given-out bytes as others, it holds none of them
-- any more; a faulted one stays as it is
abbrev pub after_feed : DecoderState → List ℕ → DecoderState
after_feed d piece = by_fault d.fault
  where
    by_fault : Option FrameFault → DecoderState
    by_fault None = record d { passed = if nat_le (length d.left) d.passed then 0 else d.passed; left = d.left ++ piece }
    by_fault (Some f) = d

-- what `next` answers and leaves, by what stands at the front; memory runs out only at a message
abbrev pub Answers : DecoderState → DecoderState → Result (Option Message) NextError → Type 0
Answers old new (Ok (Some m)) = (n : ℕ) × (front old.channel old.left ≡ Whole m n) × (new ≡ after_message old n)
Answers old new (Ok None) = (front old.channel old.left ≡ Short) × (new ≡ old)
Answers old new (Err (error.Fault f)) = (g : Fault) × (front old.channel old.left ≡ Bad g) × (f ≡ fault_at old.at g) × (new ≡ record old { fault = Some f })
Answers old new (Err error.Memory) = (m : Message) × (n : ℕ) × (front old.channel old.left ≡ Whole m n) × (new ≡ old)

-- no beginning of the bytes is a message
abbrev pub NoneSpelled : Channel → List ℕ → Type 0
NoneSpelled channel bytes = (n : ℕ) (m : Message) → n ≤ length bytes → Spelled channel (take n bytes) m → ⊥

-- the one beginning of the bytes that is a message has this length, and is this message
pub record IsOnlySpelled (channel : Channel) (bytes : List ℕ) (n : ℕ) (m : Message) : Type 0 where
  pub within : n ≤ length bytes
  pub spelled : Spelled channel (take n bytes) m
  pub only : (k : ℕ) (other : Message) → k ≤ length bytes → Spelled channel (take k bytes) other → (k ≡ n) × (other ≡ m)

-- what `next` answers, by the grammar: the message that the bytes begin with, the fault that shows, or
-- neither if the bytes are the beginning of a message and show no fault
abbrev pub FollowsGrammar : DecoderState → DecoderState → Result (Option Message) NextError → Type 0
FollowsGrammar old new (Ok (Some m)) = (n : ℕ) × IsOnlySpelled old.channel old.left n m × (new ≡ after_message old n)
FollowsGrammar old new (Ok None) = NoneSpelled old.channel old.left × ((g : Fault) → Shows old.channel old.left g → ⊥) × IsBegun old.channel old.left
FollowsGrammar old new (Err (error.Fault f)) = (g : Fault) × Shows old.channel old.left g × (f ≡ fault_at old.at g) × NoneSpelled old.channel old.left
FollowsGrammar old new (Err error.Memory) = new ≡ old

-- the decoder was fed these bytes and gave out these messages: the bytes given out are these messages, and
-- the others are not given out, except those fed after the fault that it answered
pub record StandsFor (d : DecoderState) (fed : List ℕ) (given : List (Placed Message)) : Type 0 where
  pub before : List ℕ
  pub after : List ℕ
  pub fed_is : fed ≡ before ++ (d.left ++ after)
  pub at_is : d.at ≡ length before % 2 ^ 64
  pub given_is : reading d.channel before ≡ record { placed = given; ending = Rest 0 }
  pub none_after : d.fault ≡ None → after ≡ []
  pub faulty : (f : FrameFault) → d.fault ≡ Some f → (g : Fault) × (front d.channel d.left ≡ Bad g) × (f ≡ fault_at d.at g)

-- what `next` answers of all bytes fed: the next message of their reading, or how that reading ends
abbrev pub Reads : DecoderState → DecoderState → List ℕ → List (Placed Message) → Result (Option Message) NextError → Type 0
Reads old new fed given (Ok (Some m)) = (at : ℕ) × (old.at ≡ at % 2 ^ 64) × StandsFor new fed (given ++ record { at = at; message = m } ∷ [])
    × IsPrefixOf (given ++ record { at = at; message = m } ∷ []) (reading old.channel fed).placed
Reads old new fed given (Ok None) = StandsFor new fed given × (reading old.channel fed ≡ record { placed = given; ending = Rest (length old.left) })
Reads old new fed given (Err (error.Fault f)) = (at : ℕ) × (g : Fault) × StandsFor new fed given × (reading old.channel fed ≡ record { placed = given; ending = FaultAt at g }) × (f ≡ fault_at at g)
Reads old new fed given (Err error.Memory) = StandsFor new fed given
