-- What a call that looks, or takes an event, makes of its end.
-- Source: libxenvchan's io.c for libxenvchan_data_ready and libxenvchan_buffer_space, which ask for a signal first. The pending and gone words are this project's own.
use Rattle.std.specs.Prelude.{◌≢◌, Bool, ◌||◌, IsSomeAnd}
use Rattle.vchan_protocol.specs.declared.call.Answer.{Answer}
use Rattle.vchan_protocol.specs.declared.call.Answer.TheVariants.{Ready, Space, Event, Gone}
use Rattle.vchan_protocol.specs.declared.side.Side.{Side}
use Rattle.end_view.specs.EndView.{EndView}

-- the answers of the four calls
abbrev pub AnswersReady : Answer → Type 0
AnswersReady (Ready count) = Unit {0}
AnswersReady _ = ⊥

abbrev pub AnswersSpace : Answer → Type 0
AnswersSpace (Space count) = Unit {0}
AnswersSpace _ = ⊥

abbrev pub AnswersEvent : Answer → Type 0
AnswersEvent (Event was) = Unit {0}
AnswersEvent _ = ⊥

abbrev pub AnswersGone : Answer → Type 0
AnswersGone (Gone is) = Unit {0}
AnswersGone _ = ⊥

-- an end that asked whether its peer is gone has seen its peer's end if it is
abbrev pub asked_gone : EndView → Bool → EndView
asked_gone e gone = record e { saw = e.saw || gone }

-- the end found its peer gone: it loaded the peer's gone word as not 0, and since then took no event and loaded no other value of it
abbrev pub HasFoundGone : Side → Type 0
HasFoundGone s = IsSomeAnd s.notes.gone (λ gone. gone ≢ 0)
