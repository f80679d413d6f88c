-- A listing's steps: a piece is taken, a message is printed, the stream ends.
use Rattle.std.proofs.Common.{◌≡◌, ℕ, Bool, true, false, List, [], ◌∷◌, ◌++◌, length, Option, Some, None, Result, Ok, Err, codes, refl, sym, ap, subst, ◌∙◌}
use Rattle.std.proofs.lemmas.List.{append_assoc, append-nil}
use Rattle.std.proofs.lemmas.Grind.{flat_map-append}
use Rattle.qrexec_frame.specs.declared.kind.Channel.{Channel}
use Rattle.qrexec_frame.specs.declared.fault.FrameFault.{FrameFault}
use Rattle.qrexec_frame.specs.declared.fault.NextError.{NextError}
use Rattle.qrexec_frame.specs.declared.fault.NextError.TheVariants as error
use Rattle.qrexec_frame.specs.declared.message.Message.{Message}
use Rattle.qrexec_frame.specs.Decoding.{DecoderState, StandsFor, Reads, after_feed}
use Rattle.qrexec_frame.specs.Fronts.{reading}
use Rattle.qrexec_frame.specs.Lines.{line_of}
use Rattle.qrexec_frame.specs.Printing.{Printed}
use Rattle.qrexec_frame.specs.Streams.{Placed, Rest}
use Rattle.stream_text.specs.Texts.{printed, all_printed}
use Rattle.stream_text.specs.Listings.{Gathers, Lists, ListsAll}

-- what `next_line` says of every stream that the decoder stood for
abbrev pub Tells : DecoderState → DecoderState → List ℕ → List ℕ → Result Bool NextError → Type 0
Tells old new before after r = (fed : List ℕ) (given : List (Placed Message)) → StandsFor old fed given → Printed (Reads old new fed given) before after r

-- one line more
one_more : (given : List (Placed Message)) (p : Placed Message) → all_printed (given ++ p ∷ []) ≡ (all_printed given ++ line_of p.message) ++ codes "\n"
one_more given p =
    flat_map-append printed given (p ∷ []) ∙ ap (λ last. all_printed given ++ last) (append-nil (line_of p.message ++ codes "\n")) ∙ sym (append_assoc (all_printed given) (line_of p.message) (codes "\n"))

-- a message was printed, and its line feed
pub lists_more : (channel : Channel) (fed : List ℕ) (old new : DecoderState) (before mid after : List ℕ) (r : Result Bool NextError) → r ≡ Ok true → Tells old new before mid r → new.channel ≡ old.channel → after ≡ mid ++ codes "\n"
    → Lists channel fed old before → Lists channel fed new after
lists_more channel fed old new before mid after r is tells same grown lists =
    let P : Result Bool NextError → Type 0 = λ q. Printed (Reads old new fed lists.given) before mid q in
    let told : Printed (Reads old new fed lists.given) before mid (Ok true) = subst P is (tells fed lists.given lists.stands) in
    let p : Placed Message = record { at = told.1.0; message = told.0 } in
    record {
      given = lists.given ++ p ∷ [];
      on = same ∙ lists.on;
      stands = told.1.2;
      lines = grown ∙ ap (λ text. text ++ codes "\n") (told.2 ∙ ap (λ text. text ++ line_of told.0) lists.lines) ∙ sym (one_more lists.given p);
    }

-- no message is whole
pub lists_rest : (channel : Channel) (fed : List ℕ) (old new : DecoderState) (before after : List ℕ) (r : Result Bool NextError) → r ≡ Ok false → Tells old new before after r → new ≡ old
    → Lists channel fed old before → ListsAll channel fed new after None
lists_rest channel fed old new before after r is tells same lists =
    let P : Result Bool NextError → Type 0 = λ q. Printed (Reads old new fed lists.given) before after q in
    let told : Printed (Reads old new fed lists.given) before after (Ok false) = subst P is (tells fed lists.given lists.stands) in
    let is_reading : reading channel fed ≡ record { placed = lists.given; ending = Rest (length old.left) } = ap (λ ch. reading ch fed) (sym lists.on) ∙ told.0.1 in
    record {
      lists = record { given = lists.given; on = ap (λ d. d.channel) same ∙ lists.on; stands = told.0.0; lines = told.1 ∙ lists.lines };
      lines = told.1 ∙ lists.lines ∙ ap (λ r. all_printed r.placed) (sym is_reading);
      ends = ap (λ r. r.ending) is_reading ∙ ap (λ d. Rest (length d.left)) (sym same);
    }

-- a fault shows
pub lists_fault : (channel : Channel) (fed : List ℕ) (old new : DecoderState) (before after : List ℕ) (r : Result Bool NextError) (fault : FrameFault) → r ≡ Err (error.Fault fault) → Tells old new before after r → new.channel ≡ old.channel
    → Lists channel fed old before → ListsAll channel fed new after (Some fault)
lists_fault channel fed old new before after r fault is tells same lists =
    let P : Result Bool NextError → Type 0 = λ q. Printed (Reads old new fed lists.given) before after q in
    let told : Printed (Reads old new fed lists.given) before after (Err (error.Fault fault)) = subst P is (tells fed lists.given lists.stands) in
    let is_reading = ap (λ ch. reading ch fed) (sym lists.on) ∙ told.0.3 in
    record {
      lists = record { given = lists.given; on = same ∙ lists.on; stands = told.0.2; lines = told.1 ∙ lists.lines };
      lines = told.1 ∙ lists.lines ∙ ap (λ r. all_printed r.placed) (sym is_reading);
      ends = (told.0.0, told.0.1, ap (λ r. r.ending) is_reading, told.0.4);
    }

-- a decoder that was fed keeps its channel
feed_channel : (d : DecoderState) (piece : List ℕ) (o : Option FrameFault) → d.fault ≡ o → (after_feed d piece).channel ≡ d.channel
feed_channel d piece None is = rw is refl
feed_channel d piece (Some f) is = rw is refl

-- a piece came
pub lists_fed : (channel : Channel) (fed piece : List ℕ) (old new : DecoderState) (text : List ℕ) → new ≡ after_feed old piece → ((f : List ℕ) (given : List (Placed Message)) → StandsFor old f given → StandsFor new (f ++ piece) given)
    → Lists channel fed old text → Lists channel (fed ++ piece) new text
lists_fed channel fed piece old new text is stands lists = record {
  given = lists.given;
  on = ap (λ d. d.channel) is ∙ feed_channel old piece old.fault refl ∙ lists.on;
  stands = stands fed lists.given lists.stands;
  lines = lists.lines;
}

-- what is gathered came
pub gathers_fed : (channel : Channel) (bytes : List ℕ) (old new : DecoderState) (gathered piece text : List ℕ) → piece ≡ gathered → new ≡ after_feed old piece → ((f : List ℕ) (given : List (Placed Message)) → StandsFor old f given → StandsFor new (f ++ piece) given)
    → Gathers channel bytes old gathered text → Lists channel bytes new text
gathers_fed channel bytes old new gathered piece text same is stands gathers =
    let lists : List ℕ → Type 0 = λ all. Lists channel all new text in
    subst lists (ap (λ behind. gathers.fed ++ behind) same ∙ gathers.whole) (lists_fed channel gathers.fed piece old new text is stands gathers.lists)
