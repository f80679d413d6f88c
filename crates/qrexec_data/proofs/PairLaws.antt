-- What each side of a call makes of what an honest other side sent.
use Rattle.std.proofs.Common.{◌≡◌, ℕ, ◌≤◌, min, List, [], ◌∷◌, ◌++◌, refl, ◌∙◌, ◌⊎◌, inl, inr, Option, Some, None}
use Rattle.std.specs.Prelude.{true, false, Bool, MatchBool, MatchOption}
use Rattle.std.specs.Int.{w32}
use Rattle.std.specs.Int.RustNames.{FitsSigned}
use Rattle.std.specs.List.{flat_map}
use Rattle.list_laws.specs.Lists.{IsPrefixOf}
use Rattle.list_laws.proofs.Prefixes.{prefix_trans}
use Rattle.qrexec_frame.specs.declared.message.Message.TheVariants.{Hello}
use Rattle.qrexec_frame.specs.Messages.{written}
use Rattle.service_gate.specs.Triple.{Triple}
use Rattle.qrexec_data.specs.Seeing.{Undecided, Exited, CallerSeen, ServingSeen, caller_sees, serving_sees}
use Rattle.qrexec_data.specs.Sending.{agreed, most, Begins, IsCallerStream, IsServingStream, IsServingBegun, ServingMaySend}
use Rattle.qrexec_data.specs.Laws.{FitsTriple, ReadsInput, IsVersion}
use Rattle.qrexec_data.proofs.SessionLaws.{caller_fits, caller_undecided, serving_reads, serving_waits}
use Rattle.qrexec_data.proofs.GoingLaws.{most_fits}

is_empty : (a b : List ℕ) → a ++ b ≡ [] → a ≡ []
is_empty [] b h = refl
is_empty (x ∷ a) b h = cc

-- the serving side's reading of what an honest caller sent
pub reads_input : (own chunk : ℕ) (input sent got : List ℕ) (version : Option ℕ) → IsVersion own
    → MatchOption version (IsPrefixOf sent (written (Hello own))) (λ v. Begins (IsCallerStream own (min chunk (most v)) input) sent)
    → IsPrefixOf got sent → ReadsInput input (serving_sees got)
reads_input own chunk input sent got None is may prefix =
    let h = serving_waits own got is.least is.small (prefix_trans got sent (written (Hello own)) prefix may) in
    record { fault = h.0; whole = λ e. let no = h.1 in cc }
reads_input own chunk input sent got (Some v) is may prefix =
    serving_reads own (min chunk (most v)) input may.0 got is.least is.small (most_fits chunk v) may.1 (prefix_trans got sent (flat_map written may.0) prefix may.2)

-- what an honest caller makes of what an honest serving side sent: nothing decided, or its input has ended and the triple came
abbrev pub Told : (List ℕ → Triple) → ServingSeen → CallerSeen → Type 0
Told owed seen told =
    (told.verdict ≡ Undecided)
    ⊎ ((seen.ended ≡ true) × (told ≡ record { verdict = Exited (owed seen.input).code; stdout = (owed seen.input).stdout; stderr = (owed seen.input).stderr }))

told : (own limit : ℕ) (owed : List ℕ → Triple) (seen : ServingSeen) (sent got : List ℕ) (b : Bool) → seen.ended ≡ b → IsVersion own → limit ≤ 65536
    → ((x : List ℕ) → FitsSigned w32 (owed x).code)
    → MatchBool b (Begins (IsServingStream own limit (owed seen.input)) sent) (Begins (IsServingBegun own limit owed seen.input) sent)
    → IsPrefixOf got sent → Told owed seen (caller_sees got)
told own limit owed seen sent got true over is least codes may prefix =
    by_fits (caller_fits own limit (owed seen.input) may.0 got is.least is.small least (codes seen.input) may.1 (prefix_trans got sent (flat_map written may.0) prefix may.2))
  where
    by_fits : FitsTriple (owed seen.input) (caller_sees got) → Told owed seen (caller_sees got)
    by_fits (inl h) = inl h
    by_fits (inr h) = inr (over, h)
told own limit owed seen sent got false over is least codes may prefix =
    let all : IsPrefixOf got (flat_map written may.0) = prefix_trans got sent (flat_map written may.0) prefix may.2 in
    let begun = may.1 in
    let stream = rw begun.is at all in
    inl (caller_undecided own limit begun.pieces got is.least is.small least begun.each stream)

pub sees_serving : (own chunk : ℕ) (owed : List ℕ → Triple) (served_got sent got : List ℕ) (version : Option ℕ) → agreed own served_got ≡ version → IsVersion own
    → ((x : List ℕ) → FitsSigned w32 (owed x).code) → ServingMaySend own chunk owed served_got sent → IsPrefixOf got sent → Told owed (serving_sees served_got) (caller_sees got)
sees_serving own chunk owed served_got sent got None which is codes may prefix =
    let none : sent ≡ [] = rw which at may in
    let nothing : got ≡ [] = is_empty got prefix.0 (prefix.1 ∙ none) in
    inl (rw nothing refl)
sees_serving own chunk owed served_got sent got (Some v) which is codes may prefix =
    let m = rw which at may in
    told own (min chunk (most v)) owed (serving_sees served_got) sent got (serving_sees served_got).ended refl is (most_fits chunk v) codes m prefix
