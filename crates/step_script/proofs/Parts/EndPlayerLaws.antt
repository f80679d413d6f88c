-- One end as a script plays it: what is kept of its call, and the events of the call.
use Rattle.std.proofs.Common.{◌≡◌, ℕ, ◌≤◌, ◌↔◌, Option, Some, None, IfSome, IsSome, List, ◌++◌, length, take, drop, refl, subst, sym, ap, ◌∙◌, arith, length-append}
use Rattle.std.proofs.Math.Seq.{take-length, drop-append_seam}
use Rattle.std.proofs.lemmas.List.{take-append-le}
use Rattle.std.specs.Option.{option_map}
use Rattle.ring_words.specs.declared.page.Role.{Role}
use Rattle.vchan_protocol.specs.declared.op.PastEvent.{PastEvent}
use Rattle.vchan_protocol.specs.declared.call.Answer.{Answer}
use Rattle.vchan_protocol.specs.declared.call.Answer.TheVariants.{Got}
use Rattle.vchan_protocol.specs.declared.call.Call.{Call}
use Rattle.vchan_protocol.specs.declared.side.Begun.{Begun}
use Rattle.vchan_protocol.specs.declared.side.Side.{Side}
use Rattle.vchan_core.specs.declared.machine.Machine.{Machine}
use Rattle.vchan_core.specs.declared.plain.Plain.{Plain}
use Rattle.vchan_protocol.specs.Table.Apply.{filled}
use Rattle.vchan_protocol.specs.Table.Calls.{Trace}
use Rattle.vchan_protocol.specs.History.Core.{Core, side_of, bytes_loaded, begun_standing}
use Rattle.vchan_protocol.specs.Lists.ListLaw.{count_got}
use Rattle.vchan_core.specs.Page.StandsFor.{StandsFor, HasPayload, machine_of}
use Rattle.vchan_core.specs.OneMachine.Phases.{IsIdle, payload_needed, buffer_needed}
use Rattle.vchan_core.specs.WholeCall.Stepped.{Advances, stepped}
use Rattle.step_script.specs.declared.player.end_player.EndPlayer.{EndPlayer}
use Rattle.step_script.specs.Meaning.Played.{bytes_got}
use Rattle.step_script.specs.Parts.Players.{HasLoaded, IsAt, IsTaken, got_front}
use Rattle.step_script.proofs.Meaning.GotLaws.{got_by_trail}

pub if_some : {A : Type 0} (r : Option A) (P : A → Type 0) → ((a : A) → r ≡ Some a → P a) → IfSome r P
if_some None P all = tt
if_some (Some a) P all = all a refl

-- ---- the bytes that are taken

-- a buffer that was filled begins with what it was filled with
pub filled_twice : (buffer bytes : List ℕ) → filled buffer bytes ≡ filled (filled buffer bytes) bytes
filled_twice buffer bytes = sym (ap (λ (l : List ℕ). bytes ++ l) (drop-append_seam bytes (drop (length bytes) buffer)))

pub has_filled : (trail : List PastEvent) (old new : List ℕ) → new ≡ filled old (bytes_loaded trail) → HasLoaded trail new
has_filled trail old new is =
    is ∙ filled_twice old (bytes_loaded trail) ∙ ap (λ (l : List ℕ). filled l (bytes_loaded trail)) (sym is)

got_len_is : (answer : Answer) (bytes rest : List ℕ) → ((k : ℕ) → answer ≡ Got k → length bytes ≡ k) → count_got answer ≤ length (bytes ++ rest)
got_len_is (Got k) bytes rest is = omega (arith, is k refl, length-append bytes rest)
got_len_is _ bytes rest is = omega arith

got_front_is : (answer : Answer) (trail : List PastEvent) (rest : List ℕ) → ((k : ℕ) → answer ≡ Got k → length (bytes_loaded trail) ≡ k) → got_front answer (bytes_loaded trail ++ rest) ≡ bytes_got answer trail
got_front_is (Got k) trail rest is =
    subst (λ (n : ℕ). take n (bytes_loaded trail ++ rest) ≡ bytes_loaded trail) (is k refl) (take-append-le (length (bytes_loaded trail)) (bytes_loaded trail) rest (omega arith) ∙ take-length (bytes_loaded trail))
got_front_is _ trail rest is = refl

-- the bytes of an answer stand in a buffer that begins with what was loaded
pub is_taken : (answer : Answer) (trail : List PastEvent) (buffer : List ℕ) → HasLoaded trail buffer → ((k : ℕ) → answer ≡ Got k → length (bytes_loaded trail) ≡ k) → IsTaken answer trail buffer
is_taken answer trail buffer loaded is =
    let bytes : List ℕ = bytes_loaded trail in
    record {
      within = subst (λ (l : List ℕ). count_got answer ≤ length l) (sym loaded) (got_len_is answer bytes (drop (length bytes) buffer) is);
      front = ap (λ (l : List ℕ). got_front answer l) loaded ∙ got_front_is answer trail (drop (length bytes) buffer) is;
    }

-- what was written through a slice of a whole vector is what the vector holds
pub written_through : (new old : List ℕ) (len : ℕ) → length new ≡ len → take len (new ++ drop (length new) old) ≡ new
written_through new old len is =
    subst (λ (n : ℕ). take n (new ++ drop (length new) old) ≡ new) is (take-append-le (length new) new (drop (length new) old) (omega arith) ∙ take-length new)

-- ---- events of the end

pub has_payload : (s : Side) (payload : List ℕ) → s.payload ≡ payload → HasPayload s payload
has_payload s payload is = subst (λ (l : List ℕ). take (length s.payload) l ≡ s.payload) is (take-length s.payload)

-- an end that is busy still gave no answer
no_answer : (result : Option Answer) (m : Machine) → (IsSome result ↔ IsIdle m) → ¬ IsIdle m → result ≡ None
no_answer None m idle busy = refl
no_answer (Some answer) m idle busy = absurd (busy (idle.0 refl))

-- what is known of that many events of a page, with the bytes that are kept for its end
pub record DoesAdvance (who : Role) (most : ℕ) (page page' : Plain) (end_player end_player' : EndPlayer) (result : Option Answer) : Type 0 where
  pub busy : ¬ IsIdle (machine_of page who)
  pub advances : (core : Core) → StandsFor core page → HasPayload (side_of core who) end_player.payload.items → Advances core who most page' end_player.buffer.items end_player'.buffer.items result
  pub idle : IsSome result ↔ IsIdle (machine_of page' who)
  pub payload_left : payload_needed (machine_of page' who) ≤ payload_needed (machine_of page who)
  pub buffer_left : buffer_needed (machine_of page' who) ≤ buffer_needed (machine_of page who)
  pub long : length end_player'.buffer.items ≡ length end_player.buffer.items
  pub call : end_player'.call ≡ end_player.call
  pub payload : end_player'.payload.items ≡ end_player.payload.items

module _ (core : Core) (who : Role) (most : ℕ) (page page' : Plain) (end_player end_player' : EndPlayer) (result : Option Answer) (h : IsAt core who page end_player) (d : DoesAdvance who most page page' end_player end_player' result) where
  abbrev s' : Side
  s' = side_of (stepped most core who).0 who

  came : Advances core who most page' end_player.buffer.items end_player'.buffer.items result
  came = d.advances core h.stands (has_payload (side_of core who) end_player.payload.items (h.held.payload d.busy))

  loaded : HasLoaded s'.trail end_player'.buffer.items
  loaded = has_filled s'.trail end_player.buffer.items end_player'.buffer.items (came.buffers h.held.loaded)

  pub at_advance : IsAt (stepped most core who).0 who page' end_player'
  at_advance = record {
    stands = came.stands;
    held = record {
      call = λ busy.
          ap (λ (c : Option Begun). option_map (λ (b : Begun). b.call) c) (came.inside (no_answer result (machine_of page' who) d.idle busy)) ∙ h.held.call d.busy ∙ ap (λ (c : Call). Some c) (sym d.call);
      payload = λ busy. came.payload ∙ h.held.payload d.busy ∙ sym d.payload;
      payload_left = omega (arith, d.payload_left, h.held.payload_left, ap (length {A = ℕ}) d.payload);
      buffer_left = omega (arith, d.buffer_left, h.held.buffer_left, d.long);
      loaded = loaded;
    };
  }

  pub answer_advance : result ≡ (stepped most core who).1
  answer_advance = came.answer

  -- the bytes of its answer are those that the call has loaded
  pub taken_advance : (answer : Answer) → result ≡ Some answer → IsTaken answer s'.trail end_player'.buffer.items
  taken_advance answer is =
      let t = subst (λ (r : Option Answer). IfSome r (λ (x : Answer). (b : Begun) × ((side_of core who).call ≡ Some b) × Trace (begun_standing (side_of core who) b) b.call s'.trail x)) is came.trace in
      is_taken answer s'.trail end_player'.buffer.items loaded (λ k got. got_by_trail (begun_standing (side_of core who) t.0) t.0.call s'.trail k (subst (λ (x : Answer). Trace (begun_standing (side_of core who) t.0) t.0.call s'.trail x) got t.2))
