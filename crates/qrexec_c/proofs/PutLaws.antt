-- What a writer leaves, of a message that was laid into the front of its caller's bytes.
use Rattle.std.proofs.Common.{◌≡◌, ℕ, ◌+◌, ◌<◌, ◌≤◌, List, ◌++◌, length, take, drop, refl, sym, ◌∙◌, ap, arith, append_assoc}
use Rattle.std.proofs.lemmas.List.{take_all}
use Rattle.qrexec_frame.specs.declared.message.Message.{Message}
use Rattle.qrexec_frame.specs.Grammar.{Fault}
use Rattle.qrexec_frame.specs.Messages.{Fits, HasNumbers, written, four, framed}
use Rattle.qrexec_frame.specs.Streams.{Front, Whole}
use Rattle.qrexec_frame.proofs.WrittenLaws.{size_of, has_size, is_read_again}
use Rattle.qrexec_c.specs.Puts.{Puts}

abbrev whole : Message → ℕ → Front Message Fault
whole m n = Whole m n

pub puts_written : (m : Message) (out part : List ℕ) (n : ℕ) → Fits m → HasNumbers m → part ≡ written m → n ≡ 8 + size_of m → n ≤ length out → Puts m out (part ++ drop n out) n
puts_written m out part n fits numbers is size room =
    let count : n ≡ length (written m) = omega (arith, size, has_size m fits) in (
      λ zero. absurd (omega (arith, size, zero)),
      λ _. record {
        count_is = count;
        within = room;
        fits = fits;
        new_is = ap (λ w. w ++ drop n out) is;
        read_again = λ channel more goes. is_read_again channel m more ((fits, numbers), goes) ∙ ap (whole m) (sym count);
      },
    )

pub puts_none : (m : Message) (out : List ℕ) → (Fits m → length out < 8 + size_of m) → Puts m out out 0
puts_none m out none = (
  λ _. record { new_is = refl; none = λ fits. let size = has_size m fits in omega (arith, none fits, size) },
  λ some. absurd (omega (arith, some)),
)

-- ---- the parts of a message, laid one after another

-- a header and a body are a message's bytes
framed_is : (kind len : ℕ) (body : List ℕ) → len ≡ length body → (four kind ++ four len) ++ body ≡ framed kind body
framed_is kind len body size = append_assoc (four kind) (four len) body ∙ ap (λ n. four kind ++ (four n ++ body)) size

pub laid_one : (kind len n : ℕ) (head body out : List ℕ) → head ≡ four kind ++ four len → take n out ≡ head ++ body → length out ≡ n → len ≡ length body → out ≡ framed kind body
laid_one kind len n head body out is all size same =
    sym (take_all n out (omega (arith, size))) ∙ all ∙ ap (λ h. h ++ body) is ∙ framed_is kind len body same

pub laid_two : (kind len n : ℕ) (head one two p out : List ℕ) → head ≡ four kind ++ four len → p ≡ head ++ one → take n out ≡ p ++ two → length out ≡ n → len ≡ length (one ++ two)
    → out ≡ framed kind (one ++ two)
laid_two kind len n head one two p out is first all size same =
    laid_one kind len n head (one ++ two) out is (all ∙ ap (λ h. h ++ two) first ∙ append_assoc head one two) size same

pub laid_three : (kind len n : ℕ) (head one two three p q out : List ℕ) → head ≡ four kind ++ four len → p ≡ head ++ one → q ≡ p ++ two → take n out ≡ q ++ three → length out ≡ n
    → len ≡ length (one ++ (two ++ three)) → out ≡ framed kind (one ++ (two ++ three))
laid_three kind len n head one two three p q out is first second all size same =
    laid_two kind len n head one (two ++ three) p out is first (all ∙ ap (λ h. h ++ three) second ∙ append_assoc p two three) size same
