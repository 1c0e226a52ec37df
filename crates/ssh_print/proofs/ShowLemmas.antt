-- `show` has exactly one response for a file.
use Rattle.ssh_print.proofs.Imports.{◌≡◌, ◌∙◌, ℕ, List, Option, Some, None, Result, Ok, Err, sym, ap, inl, inr, arith, same_datetime, PublicKey, rsa, p256, p384, p521, ed25519, sk_p256, sk_ed25519, IsBitCount, IsRsaSize, Certificate, comment_field, ShowKind, ShowError, IsAnswerTo, Shows, cert_on, file_signature_in, key_on, public_half_in, shown_line, IsHalfText, IsSignatureText, IsCertText, IsDateText, IsShownKey, cert_lines, clock_text, key_lines, Response}
use Rattle.ssh_print.specs.declared.showing.ShowKind.TheVariants as shown

-- ---- keys

one-count : (n a b : ℕ) → IsBitCount n a → IsBitCount n b → a ≡ b
one-count n a b x y = omega (arith, x.least b y.fits, y.least a x.fits)

one-size : (key : PublicKey) (a b : Option ℕ) → IsRsaSize key a → IsRsaSize key b → a ≡ b
one-size (rsa e n) (Some a) (Some b) x y = ap (λ bits. Some bits) (one-count n a b x y)
one-size (rsa e n) (Some a) None x y = absurd y
one-size (rsa e n) None b x y = absurd x
one-size (p256 point) a b x y = x ∙ sym y
one-size (p384 point) a b x y = x ∙ sym y
one-size (p521 point) a b x y = x ∙ sym y
one-size (ed25519 public) a b x y = x ∙ sym y
one-size (sk_p256 point application) a b x y = x ∙ sym y
one-size (sk_ed25519 public application) a b x y = x ∙ sym y

one-key_text : (key : PublicKey) (comment a b : List ℕ) → IsShownKey key comment a → IsShownKey key comment b → a ≡ b
one-key_text key comment a b x y =
    x.lines ∙ ap (λ bits. key_lines key bits comment) (one-size key x.bits y.bits x.size y.size) ∙ sym y.lines

-- ---- certificates

one-date : (moment : ℕ) (a b : List ℕ) → IsDateText moment a → IsDateText moment b → a ≡ b
one-date moment a b (inl x) (inl y) = x.1 ∙ sym y.1
one-date moment a b (inl x) (inr y) = absurd (omega (arith, x.0, y.0))
one-date moment a b (inr x) (inl y) = absurd (omega (arith, x.0, y.0))
one-date moment a b (inr (h, (c, s, e))) (inr (k, (d, t, f))) = e ∙ ap clock_text (same_datetime c d (s ∙ sym t)) ∙ sym f

one-cert_text : (c : Certificate) (a b : List ℕ) → IsCertText c a → IsCertText c b → a ≡ b
one-cert_text c a b x y =
    x.lines
    ∙ ap (λ after. cert_lines c after x.before) (one-date c.after x.after y.after x.is_after y.is_after)
    ∙ ap (λ before. cert_lines c y.after before) (one-date c.before x.before y.before x.is_before y.is_before)
    ∙ sym y.lines

-- ---- responses

same-response : (a b : Response) → a.status ≡ b.status → a.text ≡ b.text → a ≡ b
same-response a b s t = λ i. record { status = s i; text = t i }

one-response : {A : Type 0} (IsTextOf : A → List ℕ → Type 0) (read : Result A ShowError) (a b : Response)
    → ((x : A) (s t : List ℕ) → IsTextOf x s → IsTextOf x t → s ≡ t) → IsAnswerTo IsTextOf read a → IsAnswerTo IsTextOf read b → a ≡ b
one-response IsTextOf (Ok x) a b one h k = same-response a b (h.0 ∙ sym k.0) (one x a.text b.text h.1 k.1)
one-response IsTextOf (Err e) a b one h k = h ∙ sym k

pub one-answer : (kind : ShowKind) (file : List ℕ) (a b : Response) → Shows kind file a → Shows kind file b → a ≡ b
one-answer shown.Key file a b h k =
    one-response (λ key text. IsShownKey key (comment_field (shown_line file)) text) (key_on (shown_line file)) a b
    (λ key s t x y. one-key_text key (comment_field (shown_line file)) s t x y) h k
one-answer shown.Cert file a b h k = one-response IsCertText (cert_on (shown_line file)) a b one-cert_text h k
one-answer shown.Private file a b h k = one-response IsHalfText (public_half_in file) a b (λ v s t x y. x ∙ sym y) h k
one-answer shown.Sshsig file a b h k = one-response IsSignatureText (file_signature_in file) a b (λ v s t x y. x ∙ sym y) h k
