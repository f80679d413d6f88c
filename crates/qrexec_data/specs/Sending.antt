-- What each side of a call may have sent.
use Rattle.std.specs.Prelude.{◌≡◌, ℕ, min, nat_lt, MatchBool, List, [], ◌∷◌, ◌++◌, map, Option, Some, None, MatchOption, Result, Ok, Err, if◌then◌else◌}
use Rattle.std.specs.List.{flat_map}
use Rattle.list_laws.specs.Lists.{IsPrefixOf}
use Rattle.qrexec_frame.specs.declared.kind.Channel.TheVariants.{Data}
use Rattle.qrexec_frame.specs.declared.message.Message.{Message}
use Rattle.qrexec_frame.specs.declared.message.Message.TheVariants.{Hello, ExitCode}
use Rattle.qrexec_frame.specs.Messages.{written}
use Rattle.qrexec_frame.specs.Fronts.{reading}
use Rattle.qrexec_frame.specs.Streams.{Placed}
use Rattle.qrexec_hello.specs.Greeting.{greeting}
use Rattle.qrexec_hello.specs.declared.hello.HelloFault.{HelloFault}
use Rattle.service_gate.specs.Triple.{Triple}
use Rattle.qrexec_data.specs.Pieces.{In, Out, Err as Errors, Piece, message_of, end_of, joined, ArePieces, is_input, is_output}
use Rattle.qrexec_data.specs.Seeing.{serving_sees}

-- the version that both sides go on with, by the messages of the other side: its first is a greeting that is accepted
abbrev pub agreed_by : ℕ → List (Placed Message) → Option ℕ
agreed_by own [] = None
agreed_by own (p ∷ placed) = accepted (greeting own p.message)
  where
    accepted : Result ℕ HelloFault → Option ℕ
    accepted (Ok version) = Some version
    accepted (Err fault) = None

-- the version that both sides go on with, after the other side's greeting was read and accepted
abbrev pub agreed : ℕ → List ℕ → Option ℕ
agreed own got = agreed_by own (reading Data got).placed

-- the greatest number of bytes of one message in a version
abbrev pub most : ℕ → ℕ
most version = if nat_lt version 3 then 4096 else 65536

-- a caller's whole stream: its greeting, its input in pieces, the end of its input
pub record IsCallerStream (own limit : ℕ) (input : List ℕ) (stream : List Message) : Type 0 where
  pub pieces : List Piece
  pub each : ArePieces is_input limit pieces
  pub all : joined In pieces ≡ input
  pub is : stream ≡ Hello own ∷ map message_of (pieces ++ end_of In ∷ [])

-- the whole stream of a side that serves: its greeting, its outputs in pieces, their ends, its exit code
pub record IsServingStream (own limit : ℕ) (t : Triple) (stream : List Message) : Type 0 where
  pub pieces : List Piece
  pub each : ArePieces is_output limit pieces
  pub stdout : joined Out pieces ≡ t.stdout
  pub stderr : joined Errors pieces ≡ t.stderr
  pub is : stream ≡ Hello own ∷ (map message_of (pieces ++ end_of Out ∷ end_of Errors ∷ []) ++ ExitCode t.code ∷ [])

-- the stream of a side that serves while its input goes on: whatever input may still come, its outputs so far begin
-- those that it will give
pub record IsServingBegun (own limit : ℕ) (owed : List ℕ → Triple) (input : List ℕ) (stream : List Message) : Type 0 where
  pub pieces : List Piece
  pub each : ArePieces is_output limit pieces
  pub stdout : (more : List ℕ) → IsPrefixOf (joined Out pieces) (owed (input ++ more)).stdout
  pub stderr : (more : List ℕ) → IsPrefixOf (joined Errors pieces) (owed (input ++ more)).stderr
  pub is : stream ≡ Hello own ∷ map message_of pieces

-- the bytes sent begin a stream of this kind
abbrev pub Begins : (List Message → Type 0) → List ℕ → Type 0
Begins IsStream sent = (stream : List Message) × IsStream stream × IsPrefixOf sent (flat_map written stream)

-- what a caller that got these bytes may have sent
abbrev pub CallerMaySend : ℕ → ℕ → List ℕ → List ℕ → List ℕ → Type 0
CallerMaySend own chunk input got sent =
    MatchOption (agreed own got)
    (IsPrefixOf sent (written (Hello own)))
    (λ version. Begins (IsCallerStream own (min chunk (most version)) input) sent)

-- what a side that serves and got these bytes may have sent
abbrev pub ServingMaySend : ℕ → ℕ → (List ℕ → Triple) → List ℕ → List ℕ → Type 0
ServingMaySend own chunk owed got sent =
    MatchOption (agreed own got)
    (sent ≡ [])
    (λ version. MatchBool (serving_sees got).ended
    (Begins (IsServingStream own (min chunk (most version)) (owed (serving_sees got).input)) sent)
    (Begins (IsServingBegun own (min chunk (most version)) owed (serving_sees got).input) sent))

-- the whole stream was sent
pub record SentAll (own chunk : ℕ) (t : Triple) (got sent : List ℕ) : Type 0 where
  pub version : ℕ
  pub agreed : agreed own got ≡ Some version
  pub stream : List Message
  pub is_stream : IsServingStream own (min chunk (most version)) t stream
  pub whole : sent ≡ flat_map written stream
