-- What a side makes of the other side's greeting.
-- Source: the qrexec protocol's MSG_HELLO.
use Rattle.std.specs.Prelude.{ℕ, nat_lt, min, Result, Ok, Err, if◌then◌else◌}
use Rattle.qrexec_frame.specs.Kinds.{number_of}
use Rattle.qrexec_frame.specs.Messages.{kind_of}
use Rattle.qrexec_frame.specs.declared.message.Message.{Message}
use Rattle.qrexec_frame.specs.declared.message.Message.TheVariants.{Hello}
use Rattle.qrexec_hello.specs.declared.hello.HelloFault.{HelloFault}
use Rattle.qrexec_hello.specs.declared.hello.HelloFault.TheVariants.{NotHello, Version}

-- both go on with the lower of the two versions, if the other's is at least 2
abbrev pub greet : ℕ → ℕ → Result ℕ HelloFault
greet own version = if nat_lt version 2 then Err (Version version) else Ok (min own version)

-- the first message has to be a greeting
abbrev pub greeting : ℕ → Message → Result ℕ HelloFault
greeting own (Hello version) = greet own version
greeting own message = Err (NotHello (number_of (kind_of message)))
