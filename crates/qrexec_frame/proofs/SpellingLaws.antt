-- The messages at the front are the spelled ones, and the faults those that show.
use Rattle.std.proofs.Common.{◌≡◌, ◌≢◌, ℕ, ◌+◌, ◌<◌, ◌≤◌, ◌⊎◌, inl, inr, List, length, take, drop, Option, Some, None, true, false, refl, sym, ◌∙◌, ap, subst}
use Rattle.std.proofs.lemmas.Bool.{cases_lt, cases_eq, cases_Bool}
use Rattle.qrexec_frame.specs.declared.kind.Channel.{Channel}
use Rattle.qrexec_frame.specs.declared.message.Message.{Message}
use Rattle.qrexec_frame.specs.declared.message.Message.TheVariants as message
use Rattle.qrexec_frame.specs.declared.kind.Kind.{Kind}
use Rattle.qrexec_frame.specs.declared.kind.Kind.TheVariants as kind
use Rattle.qrexec_frame.specs.Kinds.{kind_on, least_len, most_len, has_line}
use Rattle.qrexec_frame.specs.Messages.{kind_of}
use Rattle.qrexec_frame.specs.Grammar.{number_at, last_byte, Says, Fault, UnknownType, TooLong, BadLength, NoNul, HasHeader, IsInRange, Shows}
use Rattle.qrexec_frame.specs.Fronts.{front, made}
use Rattle.qrexec_frame.specs.Streams.{Bad}
use Rattle.qrexec_frame.proofs.FrontLaws.{IsEnded, front_no_header, front_no_type, front_too_long, front_bad_length, front_no_body, front_no_nul, front_whole}

-- how the front of some bytes stands to the grammar
pub data Standing (channel : Channel) (bytes : List ℕ) : Type 0 where
  NoHeader : length bytes < 8 → Standing channel bytes
  NoType : 8 ≤ length bytes → kind_on channel (number_at 0 bytes) ≡ None → Standing channel bytes
  Long : (kind : Kind) → HasHeader channel bytes (number_at 0 bytes) (number_at 4 bytes) kind → 65536 < number_at 4 bytes → Standing channel bytes
  OffRange : (kind : Kind) → HasHeader channel bytes (number_at 0 bytes) (number_at 4 bytes) kind → number_at 4 bytes ≤ 65536
      → ((number_at 4 bytes < least_len kind) ⊎ (most_len kind < number_at 4 bytes)) → Standing channel bytes
  NoBody : (kind : Kind) → HasHeader channel bytes (number_at 0 bytes) (number_at 4 bytes) kind → IsInRange kind (number_at 4 bytes) → length bytes < 8 + number_at 4 bytes → Standing channel bytes
  Unended : (kind : Kind) → HasHeader channel bytes (number_at 0 bytes) (number_at 4 bytes) kind → IsInRange kind (number_at 4 bytes) → 8 + number_at 4 bytes ≤ length bytes
      → has_line kind ≡ true → last_byte (take (number_at 4 bytes) (drop 8 bytes)) ≢ 0 → Standing channel bytes
  Said : (kind : Kind) → HasHeader channel bytes (number_at 0 bytes) (number_at 4 bytes) kind → IsInRange kind (number_at 4 bytes) → 8 + number_at 4 bytes ≤ length bytes
      → IsEnded kind (take (number_at 4 bytes) (drop 8 bytes)) → Standing channel bytes

pub standing : (channel : Channel) (bytes : List ℕ) → Standing channel bytes
standing channel bytes = by_header (cases_lt (length bytes) 8)
  where
    by_header : ((length bytes < 8) ⊎ (8 ≤ length bytes)) → Standing channel bytes
    by_header (inl less) = NoHeader less
    by_header (inr there) = by_type (kind_on channel (number_at 0 bytes)) refl
      where
        by_type : (o : Option Kind) → kind_on channel (number_at 0 bytes) ≡ o → Standing channel bytes
        by_type None is = NoType there is
        by_type (Some kind) is = by_length (cases_lt 65536 (number_at 4 bytes)) (cases_lt (number_at 4 bytes) (least_len kind)) (cases_lt (most_len kind) (number_at 4 bytes))
          where
            header : HasHeader channel bytes (number_at 0 bytes) (number_at 4 bytes) kind
            header = record { there = there; number_is = refl; len_is = refl; kind_is = is }

            by_body : IsInRange kind (number_at 4 bytes) → ((length bytes < 8 + number_at 4 bytes) ⊎ (8 + number_at 4 bytes ≤ length bytes))
                → ((has_line kind ≡ true) ⊎ (has_line kind ≡ false)) → ((last_byte (take (number_at 4 bytes) (drop 8 bytes)) ≡ 0) ⊎ (last_byte (take (number_at 4 bytes) (drop 8 bytes)) ≢ 0)) → Standing channel bytes
            by_body range (inl less) line last = NoBody kind header range less
            by_body range (inr more) (inr no_line) last = Said kind header range more (inl no_line)
            by_body range (inr more) (inl line) (inl nul) = Said kind header range more (inr nul)
            by_body range (inr more) (inl line) (inr other) = Unended kind header range more line other

            by_length : ((65536 < number_at 4 bytes) ⊎ (number_at 4 bytes ≤ 65536)) → ((number_at 4 bytes < least_len kind) ⊎ (least_len kind ≤ number_at 4 bytes))
                → ((most_len kind < number_at 4 bytes) ⊎ (number_at 4 bytes ≤ most_len kind)) → Standing channel bytes
            by_length (inl long) least most = Long kind header long
            by_length (inr short) (inl less) most = OffRange kind header short (inl less)
            by_length (inr short) (inr least) (inl more) = OffRange kind header short (inr more)
            by_length (inr short) (inr least) (inr most) =
                by_body (record { short = short; least = least; most = most }) (cases_lt (length bytes) (8 + number_at 4 bytes)) (cases_Bool (has_line kind))
                (cases_eq (last_byte (take (number_at 4 bytes) (drop 8 bytes))) 0)

-- a fault that shows is the one at the front
pub shown_front : (channel : Channel) (bytes : List ℕ) (f : Fault) → Shows channel bytes f → front channel bytes ≡ Bad f
shown_front channel bytes (UnknownType number) shows =
    let is : kind_on channel (number_at 0 bytes) ≡ None = ap (kind_on channel) (sym shows.1) ∙ shows.2 in
    rw shows.1 (front_no_type channel bytes shows.0 is)
shown_front channel bytes (TooLong number len) shows = front_too_long channel bytes number len shows.0 shows.1 shows.2
shown_front channel bytes (BadLength number len) shows = front_bad_length channel bytes number len shows.0 shows.1 shows.2 shows.3
shown_front channel bytes (NoNul number) shows = front_no_nul channel bytes number shows.1 shows.0 shows.2 shows.3 shows.4 shows.5 shows.6

-- a fault at the front shows
pub front_shown : (channel : Channel) (bytes : List ℕ) (f : Fault) → front channel bytes ≡ Bad f → Shows channel bytes f
front_shown channel bytes f is = by_standing (standing channel bytes)
  where
    told : (g : Fault) → Shows channel bytes g → Shows channel bytes f
    told g shows = let here = shown_front channel bytes g shows in let same : g ≡ f = cc in let P : Fault → Type 0 = λ h. Shows channel bytes h in subst P same shows

    by_standing : Standing channel bytes → Shows channel bytes f
    by_standing (NoHeader less) = let here = front_no_header channel bytes less in cc
    by_standing (NoType there none) = told (UnknownType (number_at 0 bytes)) (there, refl, none)
    by_standing (Long kind header long) = told (TooLong (number_at 0 bytes) (number_at 4 bytes)) (kind, header, long)
    by_standing (OffRange kind header short off) = told (BadLength (number_at 0 bytes) (number_at 4 bytes)) (kind, header, short, off)
    by_standing (NoBody kind header range less) = let here = front_no_body channel bytes _ _ kind header range less in cc
    by_standing (Unended kind header range there line last) = told (NoNul (number_at 0 bytes)) (kind, number_at 4 bytes, header, range, there, line, last)
    by_standing (Said kind header range there ended) = let here = front_whole channel bytes _ _ kind header range there ended in cc

-- what a body says is the message made of it
pub says_made : (body : List ℕ) (m : Message) → Says body m → m ≡ made (kind_of m) body
says_made body (message.Hello version) says = ap message.Hello says
says_made body (message.Stdin bytes) says = ap message.Stdin says
says_made body (message.Stdout bytes) says = ap message.Stdout says
says_made body (message.Stderr bytes) says = ap message.Stderr says
says_made body (message.ExitCode code) says = ap message.ExitCode says
says_made body (message.Exec domain port line) says = let d = says.0 in let p = says.1 in let l = says.2.1 in cc
says_made body (message.JustExec domain port line) says = let d = says.0 in let p = says.1 in let l = says.2.1 in cc
says_made body (message.Connect domain port ident) says = let d = says.0 in let p = says.1 in let i = says.2 in cc
says_made body (message.Refused ident) says = ap message.Refused says
says_made body (message.Terminated domain port) says = let d = says.0 in let p = says.1 in cc
says_made body (message.Trigger3 target ident service) says = let t = says.0 in let i = says.1 in let s = says.2.1 in cc
says_made body (message.Trigger target ident service) says = let s = says.0 in let t = says.1 in let i = says.2 in cc

-- if a type has a line, what is said of the body gives its NUL
pub says_ended : (body : List ℕ) (m : Message) → Says body m → IsEnded (kind_of m) body
says_ended body (message.Hello version) says = inl refl
says_ended body (message.Stdin bytes) says = inl refl
says_ended body (message.Stdout bytes) says = inl refl
says_ended body (message.Stderr bytes) says = inl refl
says_ended body (message.ExitCode code) says = inl refl
says_ended body (message.Exec domain port line) says = inr says.2.0
says_ended body (message.JustExec domain port line) says = inr says.2.0
says_ended body (message.Connect domain port ident) says = inl refl
says_ended body (message.Refused ident) says = inl refl
says_ended body (message.Terminated domain port) says = inl refl
says_ended body (message.Trigger3 target ident service) says = inr says.2.0
says_ended body (message.Trigger target ident service) says = inl refl

-- no line in a type that has one, and a line in one that has none
line_nul : (kind : Kind) (body : List ℕ) → has_line kind ≡ true → IsEnded kind body → last_byte body ≡ 0
line_nul kind body line (inl no_line) = cc
line_nul kind body line (inr nul) = nul

-- a body of a type says the message made of it
pub made_says : (k : Kind) (body : List ℕ) → IsEnded k body → Says body (made k body)
made_says kind.Hello body ended = refl
made_says kind.Stdin body ended = refl
made_says kind.Stdout body ended = refl
made_says kind.Stderr body ended = refl
made_says kind.ExitCode body ended = refl
made_says kind.Exec body ended = (refl, refl, (line_nul kind.Exec body refl ended, refl))
made_says kind.JustExec body ended = (refl, refl, (line_nul kind.JustExec body refl ended, refl))
made_says kind.Connect body ended = (refl, refl, refl)
made_says kind.Refused body ended = refl
made_says kind.Terminated body ended = (refl, refl)
made_says kind.Trigger3 body ended = (refl, refl, (line_nul kind.Trigger3 body refl ended, refl))
made_says kind.Trigger body ended = (refl, refl, refl)

-- the message made of a body has its type
pub kind_of_made : (k : Kind) (body : List ℕ) → kind_of (made k body) ≡ k
kind_of_made kind.Hello body = refl
kind_of_made kind.Stdin body = refl
kind_of_made kind.Stdout body = refl
kind_of_made kind.Stderr body = refl
kind_of_made kind.ExitCode body = refl
kind_of_made kind.Exec body = refl
kind_of_made kind.JustExec body = refl
kind_of_made kind.Connect body = refl
kind_of_made kind.Refused body = refl
kind_of_made kind.Terminated body = refl
kind_of_made kind.Trigger3 body = refl
kind_of_made kind.Trigger body = refl
