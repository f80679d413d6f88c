-- A player with its two ends: what is done at one end leaves the other alone.
use Rattle.std.proofs.Common.{◌≡◌, ℕ, suc, zero, Bool, true, false, Option, Some, None, List, [], ◌∷◌, ◌++◌, length, refl, subst, sym, ap, ◌∙◌, arith, append-nil, append_assoc, if◌then◌else◌}
use Rattle.std.proofs.lemmas.Grind.{flat_map-append}
use Rattle.std.proofs.lemmas.List.Elements.{All-tail}
use Rattle.ring_words.specs.declared.order.Orders.{Orders}
use Rattle.ring_words.specs.declared.page.Role.{Role}
use Rattle.std.specs.List.{All}
use Rattle.ring_words.specs.declared.page.Ring.TheVariants.{Left, Right}
use Rattle.ring_words.specs.declared.page.Role.TheVariants.{Server, Client}
use Rattle.ring_words.specs.declared.page.WordName.{WordName}
use Rattle.vchan_protocol.specs.declared.call.Answer.{Answer}
use Rattle.vchan_protocol.specs.declared.op.Op.{Op}
use Rattle.vchan_protocol.specs.declared.op.Op.TheVariants.{Store}
use Rattle.vchan_protocol.specs.declared.op.PastEvent.{PastEvent}
use Rattle.vchan_protocol.specs.declared.call.Call.{Call}
use Rattle.vchan_protocol.specs.declared.side.Begun.{Begun}
use Rattle.vchan_protocol.specs.declared.side.Side.{Side}
use Rattle.vchan_core.specs.declared.machine.Machine.{Machine}
use Rattle.vchan_core.specs.declared.plain.Plain.{Plain}
use Rattle.vchan_protocol.specs.History.WholeCall.{alone}
use Rattle.vchan_protocol.specs.Table.Apply.{filled, value_taken}
use Rattle.vchan_protocol.specs.Table.Calls.{plan_of}
use Rattle.vchan_protocol.specs.History.Core.{Core, side_of, with_side, event, begun, bytes_loaded, loaded_by, plan_left, plan_next, answer_in, carried_out, standing_of, reader_of, opened}
use Rattle.vchan_core.specs.Page.StandsFor.{IsMachineOf, StandsFor, machine_of, other_of, orders_of}
use Rattle.vchan_protocol.specs.Table.Plan.{Plan, answers, does, past}
use Rattle.vchan_protocol.specs.Table.Ends.{peer_pending, written_ring}
use Rattle.vchan_protocol.specs.Hostile.Turned.{turned_side, strays, turns, strayed}
use Rattle.vchan_protocol.proofs.History.EventLaws.{side_of_with_side}
use Rattle.vchan_core.proofs.WholeCall.RunLaws.{machine_stands}
use Rattle.step_script.specs.declared.player.end_player.EndPlayer.{EndPlayer}
use Rattle.step_script.specs.declared.player.Player.{Player}
use Rattle.step_script.specs.declared.script.Opening.{Opening}
use Rattle.step_script.specs.declared.player.refusal.LineRefusal.{LineRefusal}
use Rattle.step_script.specs.Meaning.Output.{TextLine, line_text, text_of}
use Rattle.vchan_core.specs.WholeCall.Stepped.{stepped, unless_answered}
use Rattle.step_script.specs.Meaning.Played.{Outcome, finished, finishes_call, makes_call, begins_call, line_done, steps_call, steps_on, stops_with, unless_refused, call_refusal, step_refusal, plays, prints, quiet, ring_line, step_text}
use Rattle.step_script.specs.declared.player.end_players.EndPlayers.{EndPlayers}
use Rattle.step_script.specs.Parts.EndPlayers.{player_of, with_player}
use Rattle.step_script.specs.Parts.Players.{Does, HasLoaded, IsHeld, IsKnown, IsPlayedTo, Plays}
use Rattle.step_script.specs.Language.Script.{StepCall, StepLine, opens, calls, begins, steps, finishes, pokes, signals, head, image, LineFits}
use Rattle.step_script.proofs.Parts.DoesLaws.{held_idle, text_of_one}

-- ---- what no line of an end changes

abbrev pub other_side : Core → Role → Side
other_side core Server = core.client
other_side core Client = core.server

with_side_other : (core : Core) (who : Role) (s : Side) → other_side (with_side core who s) who ≡ other_side core who
with_side_other core Server s = refl
with_side_other core Client s = refl

words_other : (core : Core) (who : Role) (words : List ℕ) → other_side (record core { words = words }) who ≡ other_side core who
words_other core Server words = refl
words_other core Client words = refl

with_side_orders : (core : Core) (who : Role) (s : Side) → (with_side core who s).orders ≡ core.orders
with_side_orders core Server s = refl
with_side_orders core Client s = refl

-- anything that neither the words nor this end's own side changes
module _ {X : Type 0} (who : Role) (f : Core → X) (side : (core : Core) (s : Side) → f (with_side core who s) ≡ f core) (word : (core : Core) (words : List ℕ) → f (record core { words = words }) ≡ f core) where
  alone_kept : (plan : Plan) (core : Core) → f (alone core who plan).0 ≡ f core
  unfolding alone
  alone_kept (answers answer) core = side core _
  alone_kept (does op next) core = alone_kept (next (value_taken core.orders core.words op)) (carried_out core who op) ∙ side _ _ ∙ word core _

  event_kept : (core : Core) → f (event core who) ≡ f core
  unfolding event
  event_kept core = side _ _ ∙ word core _

  unless_answered_kept : (r : Option Answer) (core now : Core) (later : Core × Option Answer) → f now ≡ f core → f later.0 ≡ f core → f (unless_answered r now later).0 ≡ f core
  unless_answered_kept None core now later a b = b
  unless_answered_kept (Some answer) core now later a b = a

  stepped_kept : (most : ℕ) (core : Core) → f (stepped most core who).0 ≡ f core
  unfolding stepped
  stepped_kept zero core = refl
  stepped_kept (suc most) core =
      unless_answered_kept (answer_in (plan_next core who)) core (event core who) (stepped most (event core who) who) (event_kept core) (stepped_kept most (event core who) ∙ event_kept core)

  finishes_call_kept : (call : Option Begun) (core : Core) → f (finishes_call who call core).core ≡ f core
  finishes_call_kept None core = refl
  finishes_call_kept (Some b) core = alone_kept (plan_left (side_of core who)) core

  refused_kept : (why : Option LineRefusal) (core : Core) (act : Core → Outcome) → f (act core).core ≡ f core → f (unless_refused why who core act).core ≡ f core
  refused_kept None core act is = is
  refused_kept (Some reason) core act is = refl

  stops_kept : (call : Call) (core : Core) (r : Option Answer) → f (stops_with who call core r).core ≡ f core
  stops_kept call core None = refl
  stops_kept call core (Some answer) = refl

  steps_call_kept : (most : ℕ) (call : Option Begun) (core : Core) → f (steps_call who most call core).core ≡ f core
  steps_call_kept most None core = refl
  steps_call_kept most (Some b) core = stops_kept b.call (stepped most core who).0 (stepped most core who).1 ∙ stepped_kept most core

  call_kept : (c : StepCall) (core : Core) → f (line_done (calls who c) core).core ≡ f core
  call_kept c core =
      let behind : Core = (finished who core).core in
      refused_kept (call_refusal behind who c.call) behind (makes_call who c) (alone_kept (plan_of (standing_of (side_of behind who)) c.call) (begun behind who c.call c.payload) ∙ side behind _)
      ∙ finishes_call_kept (side_of core who).call core

  begin_kept : (c : StepCall) (core : Core) → f (line_done (begins who c) core).core ≡ f core
  begin_kept c core =
      let behind : Core = (finished who core).core in
      refused_kept (call_refusal behind who c.call) behind (begins_call who c) (side behind _) ∙ finishes_call_kept (side_of core who).call core

  step_kept : (most : ℕ) (core : Core) → f (line_done (steps who most) core).core ≡ f core
  step_kept most core = refused_kept (step_refusal (side_of core who)) core (steps_on who most) (steps_call_kept most (side_of core who).call core)

  finish_kept : (core : Core) → f (line_done (finishes who) core).core ≡ f core
  finish_kept core = refused_kept (step_refusal (side_of core who)) core (finished who) (finishes_call_kept (side_of core who).call core)

  stray_kept : (op : Op) (core : Core) → f (strayed core who op) ≡ f core
  stray_kept op core = side _ _ ∙ word core _

-- what is done at an end leaves the other as it was
abbrev pub Keeps : Role → (Core → Outcome) → Type 0
Keeps who act = (core : Core) → other_side (act core).core who ≡ other_side core who

pub keeps_call : (who : Role) (c : StepCall) → Keeps who (line_done (calls who c))
keeps_call who c = call_kept who (λ (k : Core). other_side k who) (λ core s. with_side_other core who s) (λ core words. words_other core who words) c

pub keeps_begin : (who : Role) (c : StepCall) → Keeps who (line_done (begins who c))
keeps_begin who c = begin_kept who (λ (k : Core). other_side k who) (λ core s. with_side_other core who s) (λ core words. words_other core who words) c

pub keeps_step : (who : Role) (most : ℕ) → Keeps who (line_done (steps who most))
keeps_step who most = step_kept who (λ (k : Core). other_side k who) (λ core s. with_side_other core who s) (λ core words. words_other core who words) most

pub keeps_finish : (who : Role) → Keeps who (line_done (finishes who))
keeps_finish who = finish_kept who (λ (k : Core). other_side k who) (λ core s. with_side_other core who s) (λ core words. words_other core who words)

-- no line changes the orders of the page
pub orders_kept : (line : StepLine) (core : Core) → (line_done line core).core.orders ≡ core.orders
orders_kept (opens opening) core = refl
orders_kept (calls who c) core = call_kept who (λ (k : Core). k.orders) (λ k s. with_side_orders k who s) (λ k words. refl) c core
orders_kept (begins who c) core = begin_kept who (λ (k : Core). k.orders) (λ k s. with_side_orders k who s) (λ k words. refl) c core
orders_kept (steps who most) core = step_kept who (λ (k : Core). k.orders) (λ k s. with_side_orders k who s) (λ k words. refl) most core
orders_kept (finishes who) core = finish_kept who (λ (k : Core). k.orders) (λ k s. with_side_orders k who s) (λ k words. refl) core
orders_kept (pokes who word value) core = stray_kept who (λ (k : Core). k.orders) (λ k s. with_side_orders k who s) (λ k words. refl) (Store word value) core
orders_kept (signals who) core = stray_kept who (λ (k : Core). k.orders) (λ k s. with_side_orders k who s) (λ k words. refl) (Store (peer_pending who) 1) core
orders_kept head core = refl
orders_kept image core = refl

-- ---- both ends

pub known_at : (who : Role) (player : Player) → (core : Core) × IsPlayedTo core player → IsKnown who player.page (player_of player.ends who)
known_at who player known = (known.0, record { stands = known.1.stands; held = known.1.held who })

-- what is kept for either end after a line of one of them
held_after : (who r : Role) (act : Core → Outcome) (core : Core) (player player' : Player) (e : EndPlayer) → Keeps who act → player'.ends ≡ with_player player.ends who e → other_of player'.page who ≡ other_of player.page who →
    IsHeld (side_of (act core).core who) (machine_of player'.page who) e → IsHeld (side_of core r) (machine_of player.page r) (player_of player.ends r) →
    IsHeld (side_of (act core).core r) (machine_of player'.page r) (player_of player'.ends r)
held_after Server Server act core player player' e keeps is other own was = subst (λ (es : EndPlayers). IsHeld (act core).core.server (machine_of player'.page Server) es.server) (sym is) own
held_after Client Client act core player player' e keeps is other own was = subst (λ (es : EndPlayers). IsHeld (act core).core.client (machine_of player'.page Client) es.client) (sym is) own
held_after Server Client act core player player' e keeps is other own was =
    subst (λ (es : EndPlayers). IsHeld (act core).core.client (machine_of player'.page Client) es.client) (sym is)
    (subst (λ (s : Side). IsHeld s (machine_of player'.page Client) player.ends.client) (sym (keeps core)) (subst (λ (m : Machine). IsHeld core.client m player.ends.client) (sym other) was))
held_after Client Server act core player player' e keeps is other own was =
    subst (λ (es : EndPlayers). IsHeld (act core).core.server (machine_of player'.page Server) es.server) (sym is)
    (subst (λ (s : Side). IsHeld s (machine_of player'.page Server) player.ends.server) (sym (keeps core)) (subst (λ (m : Machine). IsHeld core.server m player.ends.server) (sym other) was))

-- a line of one end
pub plays_at : (who : Role) (act : Core → Outcome) (player player' : Player) (e : EndPlayer) → Keeps who act → player'.ends ≡ with_player player.ends who e →
    Does who act player.page player'.page (player_of player.ends who) e player.text.items player'.text.items → Plays act player player'
plays_at who act player player' e keeps is d = record {
  to = λ core h.
      let at = d.at core (record { stands = h.stands; held = h.held who }) in
      record { stands = at.stands; held = λ r. held_after who r act core player player' e keeps is d.other at.held (h.held r) };
  prints = λ core h. d.prints core (record { stands = h.stands; held = h.held who });
}

-- one line is printed, and nothing else done
pub plays_print : (act : Core → Outcome) (player player' : Player) (line : TextLine) → ((core : Core) → StandsFor core player.page → act core ≡ prints core line) → player'.page ≡ player.page → player'.ends ≡ player.ends →
    player'.text.items ≡ player.text.items ++ line_text line → Plays act player player'
plays_print act player player' line is page ends printed = record {
  to = λ core h. subst (λ (o : Outcome). IsPlayedTo o.core player') (sym (is core h.stands)) (record {
    stands = subst (λ (p : Plain). StandsFor core p) (sym page) h.stands;
    held = λ who. subst (λ (p : Plain). IsHeld (side_of core who) (machine_of p who) (player_of player'.ends who)) (sym page)
        (subst (λ (es : EndPlayers). IsHeld (side_of core who) (machine_of player.page who) (player_of es who)) (sym ends) (h.held who));
  });
  prints = λ core h. printed ∙ ap (λ (l : List ℕ). player.text.items ++ l) (sym (text_of_one line)) ∙ sym (ap (λ (o : Outcome). player.text.items ++ text_of o.lines) (is core h.stands));
}

-- ---- an end that is turned

loaded_push : (trail : List PastEvent) (word : WordName) (value taken : ℕ) → bytes_loaded (trail ++ past (Store word value) taken ∷ []) ≡ bytes_loaded trail
loaded_push [] word value taken = refl
loaded_push (event ∷ events) word value taken = ap (λ (l : List ℕ). loaded_by event.op event.taken ++ l) (loaded_push events word value taken)

loaded_given : (turned : Bool) (s : Side) (consumed : ℕ) (buffer : List ℕ) → HasLoaded s.trail buffer → HasLoaded (if turned then s else turns s consumed).trail buffer
loaded_given true s consumed buffer loaded = loaded
loaded_given false s consumed buffer loaded = refl

held_strayed : (core : Core) (who : Role) (word : WordName) (value : ℕ) (page' : Plain) (end_player : EndPlayer) → StandsFor (strayed core who (Store word value)) page' → HasLoaded (side_of core who).trail end_player.buffer.items →
    IsHeld (side_of (strayed core who (Store word value)) who) (machine_of page' who) end_player
held_strayed core who word value page' end_player stood loaded =
    let s : Side = turned_side (side_of core who) (length (reader_of core (written_ring who)).got) in
    let taken : ℕ = value_taken core.orders core.words (Store word value) in
    let is : side_of (strayed core who (Store word value)) who ≡ strays s (Store word value) taken = side_of_with_side _ who (strays s (Store word value) taken) in
    let machine : IsMachineOf (strays s (Store word value) taken) (machine_of page' who) =
    subst (λ (x : Side). IsMachineOf x (machine_of page' who)) is (machine_stands (strayed core who (Store word value)) page' who stood) in
    let given : HasLoaded s.trail end_player.buffer.items = loaded_given (side_of core who).turned (side_of core who) (length (reader_of core (written_ring who)).got) end_player.buffer.items loaded in
    subst (λ (x : Side). IsHeld x (machine_of page' who) end_player) (sym is)
    (held_idle (strays s (Store word value) taken) (machine_of page' who) end_player machine.in_call
    (given ∙ ap (λ (l : List ℕ). filled end_player.buffer.items l) (sym (loaded_push s.trail word value taken))))

does_stray : (who : Role) (word : WordName) (value : ℕ) (page page' : Plain) (end_player : EndPlayer) (text : List ℕ) → ((core : Core) → StandsFor core page → StandsFor (strayed core who (Store word value)) page') →
    other_of page' who ≡ other_of page who → Does who (λ core. quiet (strayed core who (Store word value))) page page' end_player end_player text text
does_stray who word value page page' end_player text stands other = record {
  at = λ core h. record { stands = stands core h.stands; held = held_strayed core who word value page' end_player (stands core h.stands) h.held.loaded };
  prints = λ core h. sym (append-nil text);
  other = other;
}

keeps_stray : (who : Role) (word : WordName) (value : ℕ) → Keeps who (λ core. quiet (strayed core who (Store word value)))
keeps_stray Server word value = λ core. refl
keeps_stray Client word value = λ core. refl

same_player : (who : Role) (ends : EndPlayers) → ends ≡ with_player ends who (player_of ends who)
same_player Server ends = refl
same_player Client ends = refl

pub plays_stray : (who : Role) (word : WordName) (value : ℕ) (player : Player) (page' : Plain) → ((core : Core) → StandsFor core player.page → StandsFor (strayed core who (Store word value)) page') →
    other_of page' who ≡ other_of player.page who → Plays (λ core. quiet (strayed core who (Store word value))) player (record player { page = page' })
plays_stray who word value player page' stands other =
    plays_at who (λ core. quiet (strayed core who (Store word value))) player (record player { page = page' }) (player_of player.ends who) (keeps_stray who word value) (same_player who player.ends)
    (does_stray who word value player.page page' (player_of player.ends who) player.text.items stands other)

-- ---- the lines of a script

-- how far a script is played: from the core state of the player the lines that are left print the rest, and they fit its page
pub record IsPlaying (script : List StepLine) (player : Player) (rest : List StepLine) : Type 0 where
  pub core : Core
  pub to : IsPlayedTo core player
  pub fit : All (LineFits core.orders) rest
  pub played : player.text.items ++ text_of (plays rest core) ≡ step_text script

plays_cons : (line : StepLine) (more : List StepLine) (core : Core) → plays (line ∷ more) core ≡ (line_done line core).lines ++ plays more (line_done line core).core
unfolding plays
plays_cons line more core = refl

plays_end : (core : Core) → plays [] core ≡ ring_line core Left ∷ ring_line core Right ∷ []
unfolding plays
plays_end core = refl

-- nothing is played yet
pub playing_first : (script : List StepLine) (o : Opening) (player : Player) (rest : List StepLine) → script ≡ opens o ∷ rest → All (LineFits o.orders) rest → IsPlayedTo (opened o.orders o.start o.said o.state) player → player.text.items ≡ [] →
    IsPlaying script player rest
playing_first script o player rest is fit at none = record {
  core = opened o.orders o.start o.said o.state;
  to = at;
  fit = fit;
  played = ap (λ (l : List ℕ). l ++ text_of (plays rest (opened o.orders o.start o.said o.state))) none ∙ sym (ap step_text is);
}

-- the next line fits the page
pub playing_fits : (script : List StepLine) (player : Player) (line : StepLine) (rest rest' : List StepLine) → IsPlaying script player rest → rest ≡ line ∷ rest' → LineFits (orders_of player.page) line
playing_fits script player line rest rest' summary next =
    let fit : All (LineFits summary.core.orders) (line ∷ rest') = subst (λ (l : List StepLine). All (LineFits summary.core.orders) l) next summary.fit in
    subst (λ (o : Orders). LineFits o line) (sym summary.to.stands.orders) (fit 0 line (omega arith))

-- what a line printed stands in front of what the lines after it print
pub played_on : (player player' : Player) (line : StepLine) (rest : List StepLine) (core : Core) → IsPlayedTo core player → Plays (line_done line) player player' →
    player'.text.items ++ text_of (plays rest (line_done line core).core) ≡ player.text.items ++ text_of (plays (line ∷ rest) core)
played_on player player' line rest core at p =
    let after : Core = (line_done line core).core in
    ap (λ (l : List ℕ). l ++ text_of (plays rest after)) (p.prints core at) ∙ append_assoc player.text.items (text_of (line_done line core).lines) (text_of (plays rest after))
    ∙ ap (λ (l : List ℕ). player.text.items ++ l) (sym (flat_map-append line_text (line_done line core).lines (plays rest after)) ∙ sym (ap text_of (plays_cons line rest core)))

-- one more line is played
pub playing_on : (script : List StepLine) (player player' : Player) (line : StepLine) (rest rest' : List StepLine) → IsPlaying script player rest → rest ≡ line ∷ rest' → Plays (line_done line) player player' →
    IsPlaying script player' rest'
playing_on script player player' line rest rest' summary next p =
    let core : Core = summary.core in
    let after : Core = (line_done line core).core in
    let fit : All (LineFits core.orders) (line ∷ rest') = subst (λ (l : List StepLine). All (LineFits core.orders) l) next summary.fit in
    record {
      core = after;
      to = p.to core summary.to;
      fit = subst (λ (o : Orders). All (LineFits o) rest') (sym (orders_kept line core)) (All-tail (LineFits core.orders) line rest' fit);
      played = played_on player player' line rest' core summary.to p ∙ ap (λ (l : List StepLine). player.text.items ++ text_of (plays l core)) (sym next) ∙ summary.played;
    }

-- the rings' lines end the text
pub ended : (core : Core) (text first second : List ℕ) → first ≡ text ++ line_text (ring_line core Left) → second ≡ first ++ line_text (ring_line core Right) → second ≡ text ++ text_of (plays [] core)
ended core text first second left right =
    let one : List ℕ = line_text (ring_line core Left) in
    let two : List ℕ = line_text (ring_line core Right) in
    right ∙ ap (λ (l : List ℕ). l ++ two) left ∙ append_assoc text one two ∙ ap (λ (l : List ℕ). text ++ (one ++ l)) (sym (append-nil two))
    ∙ ap (λ (l : List TextLine). text ++ text_of l) (sym (plays_end core))
