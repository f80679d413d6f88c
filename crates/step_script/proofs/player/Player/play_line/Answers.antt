use Rattle.std.proofs.Common.{refl, sym, subst}
use Rattle.std.specs.Prelude.{OnOk}
use Rattle.vchan_protocol.specs.Table.Ends.{peer_pending}
use Rattle.step_script.specs.declared.player.end_player.EndPlayer.{EndPlayer}
use Rattle.step_script.specs.declared.player.Player.{Player}
use Rattle.step_script.specs.declared.script.Line.{Line}
use Rattle.step_script.specs.Language.Script.{begins, calls, finishes, steps}
use Rattle.step_script.specs.Meaning.Played.{line_done}
use Rattle.step_script.specs.Parts.EndPlayers.{with_player}
use Rattle.step_script.specs.Parts.Players.{Does, IsKnown, Plays}
use Rattle.step_script.specs.Parts.ScriptLines.{call_with, line_with}
use Rattle.step_script.proofs.Parts.DoesLaws.{on_ok_map}
use Rattle.step_script.proofs.Parts.PlayerLaws.{keeps_begin, keeps_call, keeps_finish, keeps_step, known_at, plays_at, plays_stray}
use Rattle.step_script.proofs.player.Player.play_line.Goals as goal

pub call-requires-clause-known : goal.call-requires-clause-known
call-requires-clause-known c = subst (λ (e : EndPlayer). IsKnown c.in-Call.who c.args.self.now.page e) (sym c.of_mut.ensures.value) (known_at c.in-Call.who c.args.self.now c.requires.known)

pub begin-requires-clause-known : goal.begin-requires-clause-known
begin-requires-clause-known c = subst (λ (e : EndPlayer). IsKnown c.in-Begin.who c.args.self.now.page e) (sym c.of_mut-in-Begin.ensures.value) (known_at c.in-Begin.who c.args.self.now c.requires.known)

pub step-requires : goal.step-requires
step-requires c = record { known = subst (λ (e : EndPlayer). IsKnown c.in-Step.who c.args.self.now.page e) (sym c.of_mut-in-Step.ensures.value) (known_at c.in-Step.who c.args.self.now c.requires.known) }

pub finish-requires : goal.finish-requires
finish-requires c = record { known = subst (λ (e : EndPlayer). IsKnown c.in-Finish.who c.args.self.now.page e) (sym c.of_mut-in-Finish.ensures.value) (known_at c.in-Finish.who c.args.self.now c.requires.known) }

pub returns-in-Call : goal.returns-in-Call
returns-in-Call c =
    let who = c.in-Call.who in
    let line = calls who (call_with c.in-Call.call c.args.payload.now) in
    let before = c.args.self.now in
    let did = c.call in
    let after : Player = record { page = did.new.page; ends = with_player before.ends who did.new.self; text = did.new.text } in
    record {
      plays = subst (λ (l : Line). OnOk did.result (Plays (line_done (line_with l c.args.payload.now)) before after)) (sym c.in-Call.is)
          (on_ok_map did.result did.ensures (λ d. plays_at who (line_done line) before after did.new.self (keeps_call who (call_with c.in-Call.call c.args.payload.now)) refl
          (subst (λ (e : EndPlayer). Does who (line_done line) before.page after.page e did.new.self before.text.items after.text.items) c.of_mut.ensures.value d)));
    }

pub returns-in-Begin : goal.returns-in-Begin
returns-in-Begin c =
    let who = c.in-Begin.who in
    let line = begins who (call_with c.in-Begin.call c.args.payload.now) in
    let before = c.args.self.now in
    let did = c.begin in
    let after : Player = record { page = did.new.page; ends = with_player before.ends who did.new.self; text = did.new.text } in
    record {
      plays = subst (λ (l : Line). OnOk did.result (Plays (line_done (line_with l c.args.payload.now)) before after)) (sym c.in-Begin.is)
          (on_ok_map did.result did.ensures (λ d. plays_at who (line_done line) before after did.new.self (keeps_begin who (call_with c.in-Begin.call c.args.payload.now)) refl
          (subst (λ (e : EndPlayer). Does who (line_done line) before.page after.page e did.new.self before.text.items after.text.items) c.of_mut-in-Begin.ensures.value d)));
    }

pub returns-in-Step : goal.returns-in-Step
returns-in-Step c =
    let who = c.in-Step.who in
    let before = c.args.self.now in
    let did = c.step in
    let after : Player = record { page = did.new.page; ends = with_player before.ends who did.new.self; text = did.new.text } in
    record {
      plays = subst (λ (l : Line). OnOk did.result (Plays (line_done (line_with l c.args.payload.now)) before after)) (sym c.in-Step.is)
          (on_ok_map did.result did.ensures (λ d. plays_at who (line_done (steps who c.in-Step.most)) before after did.new.self (keeps_step who c.in-Step.most) refl
          (subst (λ (e : EndPlayer). Does who (line_done (steps who c.in-Step.most)) before.page after.page e did.new.self before.text.items after.text.items) c.of_mut-in-Step.ensures.value d)));
    }

pub returns-in-Finish : goal.returns-in-Finish
returns-in-Finish c =
    let who = c.in-Finish.who in
    let before = c.args.self.now in
    let did = c.finish in
    let after : Player = record { page = did.new.page; ends = with_player before.ends who did.new.self; text = did.new.text } in
    record {
      plays = subst (λ (l : Line). OnOk did.result (Plays (line_done (line_with l c.args.payload.now)) before after)) (sym c.in-Finish.is)
          (on_ok_map did.result did.ensures (λ d. plays_at who (line_done (finishes who)) before after did.new.self (keeps_finish who) refl
          (subst (λ (e : EndPlayer). Does who (line_done (finishes who)) before.page after.page e did.new.self before.text.items after.text.items) c.of_mut-in-Finish.ensures.value d)));
    }

pub returns-in-Poke : goal.returns-in-Poke
returns-in-Poke c =
    let after : Player = record c.args.self.now { page = c.poke.new.self } in
    record {
      plays = subst (λ (l : Line). Plays (line_done (line_with l c.args.payload.now)) c.args.self.now after) (sym c.in-Poke.is)
          (plays_stray c.in-Poke.who c.in-Poke.word c.in-Poke.value c.args.self.now c.poke.new.self c.poke.ensures.stands c.poke.ensures.other);
    }

pub returns-in-Signal : goal.returns-in-Signal
returns-in-Signal c =
    let after : Player = record c.args.self.now { page = c.signal.new.self } in
    record {
      plays = subst (λ (l : Line). Plays (line_done (line_with l c.args.payload.now)) c.args.self.now after) (sym c.in-Signal.is)
          (plays_stray c.in-Signal.who (peer_pending c.in-Signal.who) 1 c.args.self.now c.signal.new.self c.signal.ensures.stands c.signal.ensures.other);
    }
