-- Of what a script of whole calls prints, the lists tell their part.
use Rattle.std.proofs.Common.{◌≡◌, ℕ, ◌==◌, ◌&&◌, nat_lt, Bool, true, false, not, cond, Option, Some, None, List, [], ◌∷◌, ◌++◌, take, refl, subst, sym, ap, ◌∙◌, arith}
use Rattle.std.specs.List.{filter, All}
use Rattle.std.proofs.lemmas.List.Elements.{filter-append, All-tail}
use Rattle.ring_words.specs.declared.order.Orders.{Orders}
use Rattle.ring_words.specs.declared.page.Role.{Role}
use Rattle.ring_words.specs.declared.page.Role.TheVariants.{Server, Client}
use Rattle.vchan_protocol.specs.declared.call.Answer.{Answer}
use Rattle.vchan_protocol.specs.declared.call.Answer.TheVariants.{Wrote, Full, Sent, NoRoom, Got, Empty, Short, PeerClosed, Ready, Space, Connected, BadOrders, Done, Event, NotYet, AllRead, PeerGone as GonePeer, Gone}
use Rattle.vchan_protocol.specs.declared.call.Call.{Call}
use Rattle.vchan_protocol.specs.declared.call.Call.TheVariants.{Write, Send, Read, Recv, Drain, DataReady, BufferSpace, Connect, Close, TakeEvent, Retire, PeerGone}
use Rattle.vchan_protocol.specs.declared.call.EndState.{EndState}
use Rattle.vchan_protocol.specs.declared.call.EndState.TheVariants.{Fresh, Open, Shut}
use Rattle.vchan_protocol.specs.declared.op.PastEvent.{PastEvent}
use Rattle.vchan_protocol.specs.declared.side.Begun.{Begun}
use Rattle.vchan_protocol.specs.declared.side.Side.{Side}
use Rattle.vchan_protocol.specs.History.WholeCall.{alone, called, call_answer}
use Rattle.vchan_protocol.specs.Table.Apply.{value_taken}
use Rattle.vchan_protocol.specs.Table.Calls.{plan_of, IsAllowed}
use Rattle.vchan_protocol.specs.History.Core.{Core, opened, side_of, standing_of, begun, bytes_loaded, carried_out}
use Rattle.vchan_protocol.specs.Honest.Lawful.{Lawful}
use Rattle.vchan_protocol.specs.Honest.LifeLaw.{TellsGone}
use Rattle.vchan_protocol.specs.Lists.ListCall.{ChannelLists, Outcome as ListOutcome, end_of, waiting, lists_of, list_call, free, avail, peer_is_shut}
use Rattle.vchan_protocol.specs.Lists.ListLaw.{IsTold, FollowsLists, count_got}
use Rattle.vchan_protocol.specs.Table.Plan.{Plan, answers, does}
use Rattle.vchan_protocol.specs.Honest.Reached.{MayBegin}
use Rattle.vchan_protocol.proofs.Honest.LawfulSteps.{lawful_opened}
use Rattle.vchan_protocol.proofs.Lists.ListWhole.{tells_lists, follows_lists, may_there}
use Rattle.vchan_protocol.proofs.History.WholeCallSteps.{lawful_called}
use Rattle.vchan_protocol.specs.History.Peer.{peer}
use Rattle.step_script.specs.declared.player.refusal.LineRefusal.{LineRefusal}
use Rattle.step_script.specs.declared.player.refusal.LineRefusal.TheVariants.{Turned}
use Rattle.step_script.specs.declared.script.Opening.{Opening}
use Rattle.step_script.specs.Meaning.Output.{TextLine, answered, text_of}
use Rattle.step_script.specs.Meaning.Played.{Outcome, bytes_got, call_refusal, finishes_call, followed_by, has_retired, line_done, makes_call, plays, state_refusal, step_lines, unless_refused}
use Rattle.step_script.specs.Language.Script.{StepCall, StepLine, opens, calls, begins, steps, finishes, pokes, signals, head, image, CanSay, CallFits, LineFits}
use Rattle.step_script.specs.Meaning.ListScript.{IsWhole, CanBe, CanOpen, Told, ToldByLists, WholeScriptsFollowLists, bytes_told, is_told, is_told_call, list_refusal, told_call, told_from, told_line, told_lines, unless_untold}

-- ---- two honest ends between calls

-- the page is lawful, and each end is honest and between two calls
record IsCalm (core : Core) : Type 0 where
  lawful : Lawful core
  idle : (who : Role) → (side_of core who).call ≡ None
  honest : (who : Role) → (side_of core who).turned ≡ false

-- what holds of an end and of its peer holds of each
of_each : (P : Side → Type 0) (core : Core) (who : Role) → P (side_of core who) → P (side_of core (peer who)) → (to : Role) → P (side_of core to)
of_each P core Server mine theirs Server = mine
of_each P core Server mine theirs Client = theirs
of_each P core Client mine theirs Server = theirs
of_each P core Client mine theirs Client = mine

-- the peer of an end that makes events alone stays as it is
alone_other : (core : Core) (who : Role) (plan : Plan) → side_of (alone core who plan).0 (peer who) ≡ side_of core (peer who)
unfolding alone
alone_other core Server (answers answer) = refl
alone_other core Client (answers answer) = refl
alone_other core Server (does op next) = alone_other (carried_out core Server op) Server (next (value_taken core.orders core.words op))
alone_other core Client (does op next) = alone_other (carried_out core Client op) Client (next (value_taken core.orders core.words op))

-- the end itself is between two calls then, and no more turned than before
alone_idle : (core : Core) (who : Role) (plan : Plan) → (side_of (alone core who plan).0 who).call ≡ None
unfolding alone
alone_idle core Server (answers answer) = refl
alone_idle core Client (answers answer) = refl
alone_idle core who (does op next) = alone_idle (carried_out core who op) who (next (value_taken core.orders core.words op))

alone_turned : (core : Core) (who : Role) (plan : Plan) → (side_of (alone core who plan).0 who).turned ≡ (side_of core who).turned
unfolding alone
alone_turned core Server (answers answer) = refl
alone_turned core Client (answers answer) = refl
alone_turned core Server (does op next) = alone_turned (carried_out core Server op) Server (next (value_taken core.orders core.words op))
alone_turned core Client (does op next) = alone_turned (carried_out core Client op) Client (next (value_taken core.orders core.words op))

begun_other : (core : Core) (who : Role) (call : Call) (payload : List ℕ) → side_of (begun core who call payload) (peer who) ≡ side_of core (peer who)
begun_other core Server call payload = refl
begun_other core Client call payload = refl

begun_turned : (core : Core) (who : Role) (call : Call) (payload : List ℕ) → (side_of (begun core who call payload) who).turned ≡ (side_of core who).turned
begun_turned core Server call payload = refl
begun_turned core Client call payload = refl

-- a whole call leaves the ends so
calm_called : (core : Core) (who : Role) (call : Call) (payload : List ℕ) → IsCalm core → MayBegin who (side_of core who) call payload → IsCalm (called core who call payload)
calm_called core who call payload calm may =
    let plan : Plan = plan_of (standing_of (side_of core who)) call in
    let start : Core = begun core who call payload in
    let other : side_of (called core who call payload) (peer who) ≡ side_of core (peer who) = alone_other start who plan ∙ begun_other core who call payload in
    record {
      lawful = lawful_called core who call payload calm.lawful may;
      idle = of_each (λ (s : Side). s.call ≡ None) (called core who call payload) who (alone_idle start who plan) (ap (λ (s : Side). s.call) other ∙ calm.idle (peer who));
      honest = of_each (λ (s : Side). s.turned ≡ false) (called core who call payload) who (alone_turned start who plan ∙ begun_turned core who call payload ∙ calm.honest who) (ap (λ (s : Side). s.turned) other ∙ calm.honest (peer who));
    }

-- ---- which calls an end can make

refused_apart : (why : LineRefusal) → ◌≡◌ {A = Option LineRefusal} (Some why) None → ⊥
refused_apart why is = cc

-- a call that nothing refuses is one that the end's state allows
open_allows : (who : Role) (call : Call) → CanSay who call → state_refusal Open false call ≡ None → IsAllowed who Open call
open_allows who (Write n) said is = tt
open_allows who (Send n) said is = tt
open_allows who (Read n) said is = tt
open_allows who (Recv n) said is = tt
open_allows who (Drain n) said is = said
open_allows who DataReady said is = tt
open_allows who BufferSpace said is = tt
open_allows who Connect said is = absurd (refused_apart _ is)
open_allows who Close said is = tt
open_allows who TakeEvent said is = tt
open_allows who Retire said is = tt
open_allows who PeerGone said is = tt

fresh_allows : (who : Role) (call : Call) → CanSay who call → state_refusal Fresh false call ≡ None → IsAllowed who Fresh call
fresh_allows who (Write n) said is = absurd (refused_apart _ is)
fresh_allows who (Send n) said is = absurd (refused_apart _ is)
fresh_allows who (Read n) said is = absurd (refused_apart _ is)
fresh_allows who (Recv n) said is = absurd (refused_apart _ is)
fresh_allows who (Drain n) said is = absurd (refused_apart _ is)
fresh_allows who DataReady said is = absurd (refused_apart _ is)
fresh_allows who BufferSpace said is = absurd (refused_apart _ is)
fresh_allows who Connect said is = subst (λ (r : Role). IsAllowed r Fresh Connect) (sym said) tt
fresh_allows who Close said is = tt
fresh_allows who TakeEvent said is = absurd (refused_apart _ is)
fresh_allows who Retire said is = tt
fresh_allows who PeerGone said is = absurd (refused_apart _ is)

shut_allows : (who : Role) (call : Call) → state_refusal Shut false call ≡ None → IsAllowed who Shut call
shut_allows who (Write n) is = absurd (refused_apart _ is)
shut_allows who (Send n) is = absurd (refused_apart _ is)
shut_allows who (Read n) is = absurd (refused_apart _ is)
shut_allows who (Recv n) is = absurd (refused_apart _ is)
shut_allows who (Drain n) is = absurd (refused_apart _ is)
shut_allows who DataReady is = absurd (refused_apart _ is)
shut_allows who BufferSpace is = absurd (refused_apart _ is)
shut_allows who Connect is = absurd (refused_apart _ is)
shut_allows who Close is = absurd (refused_apart _ is)
shut_allows who TakeEvent is = absurd (refused_apart _ is)
shut_allows who Retire is = tt
shut_allows who PeerGone is = absurd (refused_apart _ is)

fresh_either : (retired : Bool) (call : Call) → state_refusal Fresh retired call ≡ None → state_refusal Fresh false call ≡ None
fresh_either true call is = is
fresh_either false call is = is

open_either : (retired : Bool) (call : Call) → state_refusal Open retired call ≡ None → state_refusal Open false call ≡ None
open_either true call is = is
open_either false call is = is

state_allows : (who : Role) (state : EndState) (retired : Bool) (call : Call) → CanSay who call → state_refusal state retired call ≡ None → IsAllowed who state call
state_allows who Fresh retired call said is = fresh_allows who call said (fresh_either retired call is)
state_allows who Open retired call said is = open_allows who call said (open_either retired call is)
state_allows who Shut false call said is = shut_allows who call is
state_allows who Shut true call said is = absurd (refused_apart _ is)

may_begin : (core : Core) (who : Role) (c : StepCall) → IsCalm core → CallFits who c → list_refusal (end_of (lists_of core) who) c.call ≡ None → MayBegin who (side_of core who) c.call c.payload
may_begin core Server c calm fits is = record { idle = calm.idle Server; allowed = state_allows Server core.server.state _ c.call fits.said is; pays = fits.payload; bytes = fits.bytes }
may_begin core Client c calm fits is = record { idle = calm.idle Client; allowed = state_allows Client core.client.state _ c.call fits.said is; pays = fits.payload; bytes = fits.bytes }

-- the gone word of a retired end is set
retired_is : (gone : ℕ) (retired : Bool) (state : EndState) → TellsGone gone retired state → not (gone == 0) ≡ retired
retired_is gone true state tells = ap (λ (n : ℕ). not (n == 0)) tells.word
retired_is gone false state tells = ap (λ (n : ℕ). not (n == 0)) tells.word

-- the lists refuse a call for the same reason
refusal_is : (core : Core) (who : Role) (call : Call) → IsCalm core → call_refusal core who call ≡ list_refusal (end_of (lists_of core) who) call
refusal_is core Server call calm =
    ap (λ (b : Bool). cond b (Some Turned) (state_refusal core.server.state (has_retired core Server) call)) (calm.honest Server)
    ∙ ap (λ (b : Bool). state_refusal core.server.state b call) (retired_is _ _ _ calm.lawful.lives.server_words.gone)
refusal_is core Client call calm =
    ap (λ (b : Bool). cond b (Some Turned) (state_refusal core.client.state (has_retired core Client) call)) (calm.honest Client)
    ∙ ap (λ (b : Bool). state_refusal core.client.state b call) (retired_is _ _ _ calm.lawful.lives.client_words.gone)

-- ---- the line of an answer

-- the bytes of an answer are those that the lists tell
bytes_are : (answer : Answer) (trail : List PastEvent) (waits : List ℕ) → bytes_loaded trail ≡ take (count_got answer) waits → bytes_got answer trail ≡ bytes_told answer waits
bytes_are (Wrote count) trail waits is = refl
bytes_are (Full prod cons) trail waits is = refl
bytes_are (Sent count) trail waits is = refl
bytes_are (NoRoom prod cons) trail waits is = refl
bytes_are (Got count) trail waits is = is
bytes_are (Empty prod cons) trail waits is = refl
bytes_are (Short prod cons) trail waits is = refl
bytes_are PeerClosed trail waits is = refl
bytes_are (Ready count) trail waits is = refl
bytes_are (Space count) trail waits is = refl
bytes_are Connected trail waits is = refl
bytes_are (BadOrders left right) trail waits is = refl
bytes_are Done trail waits is = refl
bytes_are (Event was) trail waits is = refl
bytes_are (NotYet prod cons) trail waits is = refl
bytes_are AllRead trail waits is = refl
bytes_are (GonePeer prod cons) trail waits is = refl
bytes_are (Gone was) trail waits is = refl

-- an answer is told
abbrev is_there : Option Answer → Bool
is_there None = false
is_there (Some answer) = true

-- the answer of an outcome is told, or isn't
record Tells (told : Bool) (outcome : ListOutcome) : Type 0 where
  there : told ≡ is_there outcome.1

told_if : (told test : Bool) (one two : ListOutcome) → Tells told one → Tells told two → Tells told (cond test one two)
told_if told true one two is other = is
told_if told false one two is other = other

told_so : (channel : ChannelLists) (answer : Answer) → Tells true (channel, Some answer)
told_so channel answer = record { there = refl }

-- the lists tell the answer of each call but `event`
answer_is_there : (channel : ChannelLists) (who : Role) (call : Call) (payload : List ℕ) → Tells (is_told_call call) (list_call channel who call payload)
answer_is_there channel who (Write n) payload =
    told_if true (peer_is_shut channel who) _ _ (told_so _ _)
    (told_if true (n == 0) _ _ (told_so _ _) (told_if true (free channel who == 0) _ _ (told_so _ _) (told_so _ _)))
answer_is_there channel who (Send n) payload =
    told_if true (peer_is_shut channel who) _ _ (told_so _ _) (told_if true (nat_lt (free channel who) n) _ _ (told_so _ _) (told_so _ _))
answer_is_there channel who (Read n) payload =
    told_if true (avail channel who == 0) _ _ (told_if true (peer_is_shut channel who) _ _ (told_so _ _) (told_so _ _)) (told_so _ _)
answer_is_there channel who (Recv n) payload =
    told_if true (nat_lt (avail channel who) n) _ _ (told_if true (peer_is_shut channel who) _ _ (told_so _ _) (told_so _ _)) (told_so _ _)
answer_is_there channel who (Drain n) payload =
    told_if true (avail channel who == 0) _ _ (told_if true (peer_is_shut channel who) _ _ (told_so _ _) (told_so _ _)) (told_so _ _)
answer_is_there channel who DataReady payload = told_so _ _
answer_is_there channel who BufferSpace payload = told_so _ _
answer_is_there channel who Connect payload =
    told_if true ((channel.said.0 == channel.orders.left.number) && (channel.said.1 == channel.orders.right.number)) _ _ (told_so _ _) (told_so _ _)
answer_is_there channel who Close payload = told_so _ _
answer_is_there channel who TakeEvent payload = record { there = refl }
answer_is_there channel who Retire payload = told_so _ _
answer_is_there channel who PeerGone payload = told_so _ _

answer_line : (who : Role) (call : Call) (answer : Answer) (trail : List PastEvent) (waits : List ℕ) (told : Option Answer) → is_told_call call ≡ is_there told → IsTold told answer → bytes_loaded trail ≡ take (count_got answer) waits →
    filter is_told (answered who call answer (bytes_got answer trail) ∷ []) ≡ told_lines who call waits told
answer_line who call answer trail waits None tells is loaded = ap (λ (b : Bool). cond b (answered who call answer (bytes_got answer trail) ∷ []) []) tells
answer_line who call answer trail waits (Some told) tells is loaded =
    ap (λ (b : Bool). cond b (answered who call answer (bytes_got answer trail) ∷ []) []) tells
    ∙ ap (λ (l : List ℕ). answered who call answer l ∷ []) (bytes_are answer trail waits loaded)
    ∙ ap (λ (a : Answer). answered who call a (bytes_told a waits) ∷ []) is

-- ---- a line

-- what a line did is what the lists tell of it, and leaves the ends honest and between calls
record Agrees (outcome : Outcome) (told : Told) : Type 0 where
  lists : lists_of outcome.core ≡ told.0
  lines : filter is_told outcome.lines ≡ told.1
  calm : IsCalm outcome.core

-- between two calls nothing has to be finished first
call_line : (core : Core) (who : Role) (c : StepCall) → IsCalm core → line_done (calls who c) core ≡ unless_refused (list_refusal (end_of (lists_of core) who) c.call) who core (makes_call who c)
call_line core who c calm =
    ap (λ (inside : Option Begun). followed_by (finishes_call who inside core) (λ behind. unless_refused (call_refusal behind who c.call) who behind (makes_call who c))) (calm.idle who)
    ∙ ap (λ (why : Option LineRefusal). unless_refused why who core (makes_call who c)) (refusal_is core who c.call calm)

call_agrees : (core : Core) (who : Role) (c : StepCall) → IsCalm core → CallFits who c → (why : Option LineRefusal) → list_refusal (end_of (lists_of core) who) c.call ≡ why →
    Agrees (unless_refused why who core (makes_call who c)) (unless_untold why (lists_of core) (told_call (lists_of core) who c))
call_agrees core who c calm fits (Some why) is = record { lists = refl; lines = refl; calm = calm }
call_agrees core who c calm fits None is =
    let may : MayBegin who (side_of core who) c.call c.payload = may_begin core who c calm fits is in
    let follows : FollowsLists core who c.call c.payload = follows_lists core who c.call c.payload (tells_lists core calm.lawful) (may_there core who c.call c.payload may) in
    record {
      lists = follows.lists;
      lines = answer_line who c.call (call_answer core who c.call c.payload) (side_of (called core who c.call c.payload) who).trail (waiting (lists_of core) who) (list_call (lists_of core) who c.call c.payload).1
          (answer_is_there (lists_of core) who c.call c.payload).there follows.answer follows.bytes;
      calm = calm_called core who c.call c.payload calm may;
    }

line_agrees : (orders : Orders) (line : StepLine) (core : Core) → IsCalm core → LineFits orders line → IsWhole line → Agrees (line_done line core) (told_line line (lists_of core))
line_agrees orders (calls who c) core calm fits whole =
    subst (λ (o : Outcome). Agrees o (told_line (calls who c) (lists_of core))) (sym (call_line core who c calm)) (call_agrees core who c calm fits (list_refusal (end_of (lists_of core) who) c.call) refl)
line_agrees orders head core calm fits whole = record { lists = refl; lines = refl; calm = calm }
line_agrees orders image core calm fits whole = record { lists = refl; lines = refl; calm = calm }
line_agrees orders (opens o) core calm fits whole = absurd whole
line_agrees orders (begins who c) core calm fits whole = absurd whole
line_agrees orders (steps who most) core calm fits whole = absurd whole
line_agrees orders (finishes who) core calm fits whole = absurd whole
line_agrees orders (pokes who word value) core calm fits whole = absurd whole
line_agrees orders (signals who) core calm fits whole = absurd whole

-- ---- a script

lines_agree : (orders : Orders) (lines : List StepLine) (core : Core) → IsCalm core → All (LineFits orders) lines → All IsWhole lines → filter is_told (plays lines core) ≡ told_from lines (lists_of core)
unfolding plays told_from
lines_agree orders [] core calm fit whole = refl
lines_agree orders (line ∷ more) core calm fit whole =
    let agrees : Agrees (line_done line core) (told_line line (lists_of core)) = line_agrees orders line core calm (fit 0 line (omega arith)) (whole 0 line (omega arith)) in
    let behind : Core = (line_done line core).core in
    let others : filter is_told (plays more behind) ≡ told_from more (lists_of behind) = lines_agree orders more behind agrees.calm (All-tail (LineFits orders) line more fit) (All-tail IsWhole line more whole) in
    filter-append is_told (line_done line core).lines (plays more behind)
    ∙ ap (λ (l : List TextLine). l ++ filter is_told (plays more behind)) agrees.lines
    ∙ ap (λ (l : List TextLine). (told_line line (lists_of core)).1 ++ l) (others ∙ ap (told_from more) agrees.lists)

calm_opened : (o : Opening) → CanOpen o → IsCalm (opened o.orders o.start o.said o.state)
calm_opened o can =
    let core : Core = opened o.orders o.start o.said o.state in
    record {
      lawful = lawful_opened o.orders o.start o.said o.state can.start can.said.0 can.said.1 can.state;
      idle = of_each (λ (s : Side). s.call ≡ None) core Server refl refl;
      honest = of_each (λ (s : Side). s.turned ≡ false) core Server refl refl;
    }

pub whole_scripts : WholeScriptsFollowLists
whole_scripts (opens o ∷ more) can whole =
    lines_agree o.orders more (opened o.orders o.start o.said o.state) (calm_opened o can.0) can.1 whole
whole_scripts [] can whole = absurd can
whole_scripts (calls who c ∷ more) can whole = absurd can
whole_scripts (begins who c ∷ more) can whole = absurd can
whole_scripts (steps who most ∷ more) can whole = absurd can
whole_scripts (finishes who ∷ more) can whole = absurd can
whole_scripts (pokes who word value ∷ more) can whole = absurd can
whole_scripts (signals who ∷ more) can whole = absurd can
whole_scripts (head ∷ more) can whole = absurd can
whole_scripts (image ∷ more) can whole = absurd can

-- so of the text that a script prints
pub script_text : (script : List StepLine) (o : Opening) (lines : List StepLine) (text : List ℕ) → opens o ∷ lines ≡ script → CanOpen o → All (LineFits o.orders) lines → text ≡ text_of (step_lines script) → ToldByLists script text
script_text script o lines text is can fit printed whole =
    (printed, whole_scripts script (subst CanBe is (can, fit)) whole)
