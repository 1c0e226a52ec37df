-- Bytes that are refused as a private key body have the first error that is returned, at its place.
use Rattle.ssh_bodies.proofs.Imports.{IsPrivateFault, ◌≡◌, ℕ, ◌+◌, ◌%◌, ◌≤◌, Bool, true, false, cond, ltb, eqb, List, [], ◌∷◌, ◌++◌, length, take, replicate, Err, refl, sym, ap, subst, ◌∙◌, append_assoc, arith, inl, inr, codes, ◌&&◌, w32, concat, flat_map, bytes_eq, ltb-true, ltb-false, eqb-true, eqb-false, append-nil, length-append, bytes_eq-Decides, string, uint32, Position, start, number_at, IsBytes, Took, fine, PublicKey, ed25519, longest, IsKey, BodyError, as_body_error, body_wants, magic_at, last_at, PrivateStands, InSection, IsPrivateFieldFault, PrivateBody, private_magic, private_row}
use Rattle.ssh_wire.specs.Reading.{string_at}
use Rattle.ssh_bodies.specs.declared.error.BodyError.TheVariants as errors
use Rattle.ssh_bodies.specs.BodyReading.{key_at}
use Rattle.ssh_bodies.specs.PrivateReading.{not_encrypted_at, section_start, body_at, private_in}
use Rattle.ssh_bodies.proofs.Steps.{step_err, err_is, wants_ok, wants_err}
use Rattle.ssh_bodies.proofs.Fields.{Run, run_took, stands, number_fault, text_fault, number_took, text_took, magic_took, magic_fault, key_took, key_fails}
use Rattle.ssh_bodies.proofs.PrivateLaws.{not_encrypted_took, section_start_took}
use Rattle.ssh_bodies.proofs.SectionFaults.{section_fault}
use Rattle.ssh_bodies.proofs.SshsigLaws.{no_rest}
use Rattle.ssh_bodies.proofs.SshsigFaults.{some_key, some_more}

-- an error inside the section
inside : (bytes : List ℕ) (e : BodyError) → InSection bytes e → IsPrivateFieldFault bytes e
inside bytes (errors.Wire e) s = inr s
inside bytes errors.CheckMismatch s = s
inside bytes errors.PublicMismatch s = s
inside bytes errors.Padding s = s
inside bytes errors.Magic s = absurd s.fault
inside bytes errors.Encrypted s = absurd s.fault
inside bytes errors.KeyCount s = absurd s.fault
inside bytes errors.NotMultipleOfEight s = absurd s.fault
inside bytes errors.Version s = absurd s.fault
inside bytes errors.EmptyNamespace s = absurd s.fault
inside bytes errors.Hash s = absurd s.fault
inside bytes (errors.Key e) s = absurd s.fault
inside bytes errors.Trailing s = absurd s.fault
inside bytes errors.TooLong s = absurd s.fault

-- ---- fields before the section

abbrev FitsRow : PublicKey × List ℕ → Type 0
FitsRow v = IsKey v.0

abbrev some_row : PublicKey × List ℕ
some_row = (ed25519 (replicate 32 0), [])

encrypted : (cipher kdf options : List ℕ) → (bytes_eq cipher (codes "none") && (bytes_eq kdf (codes "none") && eqb (length options) 0)) ≡ false → ¬ ((cipher ≡ codes "none") × (kdf ≡ codes "none") × (options ≡ []))
encrypted cipher kdf options unlike all =
    let a : bytes_eq cipher (codes "none") ≡ true = (bytes_eq-Decides cipher (codes "none")).1 all.0 in
    let b : bytes_eq kdf (codes "none") ≡ true = (bytes_eq-Decides kdf (codes "none")).1 all.1 in
    let c : eqb (length options) 0 ≡ true = ap (λ (t : List ℕ). eqb (length t) 0) all.2 in
    let yes : (bytes_eq cipher (codes "none") && (bytes_eq kdf (codes "none") && eqb (length options) 0)) ≡ true = rw (a, b, c) refl in
    let both : true ≡ false = sym yes ∙ unlike in
    absurd cc

header_fails : (bytes : List ℕ) (at : Position) (e : BodyError) → IsBytes at.rest → PrivateStands 1 bytes at.place at.rest → not_encrypted_at at ≡ Err e → IsPrivateFieldFault bytes e
unfolding not_encrypted_at
header_fails bytes at e fits s h =
    step_err (as_body_error (string_at at)) _ e h (λ bad.
    missing [] at bad s (omega arith) (let z : at.place ≡ at.place + 0 = omega arith in z)) (λ cipher read_cipher h1.
    let t_cipher = text_took at cipher fits read_cipher in
    step_err (as_body_error (string_at cipher.1)) _ e h1 (λ bad.
    missing (cipher.0 ∷ []) cipher.1 bad (subst (λ (r : List ℕ). PrivateStands 1 bytes at.place r) (t_cipher.0.parts ∙ ap (λ (t : List ℕ). t ++ (cipher.1).rest) (sym (append-nil (string cipher.0)))) s) (omega arith)
    (t_cipher.0.place ∙ ap (λ (t : List ℕ). at.place + length t) (sym (append-nil (string cipher.0))))) (λ kdf read_kdf h2.
    let t_kdf = text_took cipher.1 kdf t_cipher.0.rest_fits read_kdf in
    let two : at.rest ≡ string cipher.0 ++ (string kdf.0 ++ (kdf.1).rest) = t_cipher.0.parts ∙ ap (λ (t : List ℕ). string cipher.0 ++ t) t_kdf.0.parts in
    let joined : string cipher.0 ++ (string kdf.0 ++ (kdf.1).rest) ≡ (string cipher.0 ++ (string kdf.0 ++ [])) ++ (kdf.1).rest =
    ap (λ (t : List ℕ). string cipher.0 ++ t) (ap (λ (t : List ℕ). t ++ (kdf.1).rest) (sym (append-nil (string kdf.0)))) ∙ sym (append_assoc (string cipher.0) (string kdf.0 ++ []) (kdf.1).rest) in
    step_err (as_body_error (string_at kdf.1)) _ e h2 (λ bad.
    missing (cipher.0 ∷ kdf.0 ∷ []) kdf.1 bad (subst (λ (r : List ℕ). PrivateStands 1 bytes at.place r) (two ∙ joined) s) (omega arith)
    (omega (arith, t_cipher.0.place, t_kdf.0.place, length-append (string cipher.0) (string kdf.0 ++ []), length-append (string kdf.0) []))) (λ options read_options h3.
    let t_options = text_took kdf.1 options t_kdf.0.rest_fits read_options in
    step_err (body_wants (bytes_eq cipher.0 (codes "none") && (bytes_eq kdf.0 (codes "none") && eqb (length options.0) 0)) errors.Encrypted) _ e h3 (λ bad.
    let f = wants_err (bytes_eq cipher.0 (codes "none") && (bytes_eq kdf.0 (codes "none") && eqb (length options.0) 0)) errors.Encrypted e bad in
    subst (λ (x : BodyError). IsPrivateFieldFault bytes x) f.1 (record {
      place = at.place;
      cipher = cipher.0;
      kdf = kdf.0;
      options = options.0;
      rest = (options.1).rest;
      stands = subst (λ (r : List ℕ). PrivateStands 1 bytes at.place r) (two ∙ ap (λ (t : List ℕ). string cipher.0 ++ (string kdf.0 ++ t)) t_options.0.parts) s;
      encrypted = encrypted cipher.0 kdf.0 options.0 f.0;
    })) (λ u plain h4. absurd (let none : fine {E = BodyError} (u, options.1) ≡ Err e = h4 in cc)))))
  where
    missing : (texts : List (List ℕ)) (here : Position) → as_body_error (string_at here) ≡ Err e → PrivateStands 1 bytes at.place (flat_map string texts ++ here.rest) → length texts ≤ 2 → here.place ≡ at.place + length (flat_map string texts) → IsPrivateFieldFault bytes e
    missing texts here bad stood few far =
        let f = text_fault here e bad in
        subst (λ (x : BodyError). IsPrivateFieldFault bytes x) (sym f.0) (inl (refl, inl (record { texts = texts; few = few; first = at.place; rest = here.rest; stands = stood; at = far; none = f.1 })))

-- ---- a whole body

body_fault : (bytes : List ℕ) (e : BodyError) → IsBytes bytes → length bytes ≤ longest → body_at (start bytes) ≡ Err e → IsPrivateFieldFault bytes e
unfolding body_at section_start
body_fault bytes e fits short h =
    step_err (magic_at private_magic (start bytes)) _ e h (λ bad.
    let f = magic_fault private_magic (start bytes) e bad in
    subst (λ (x : BodyError). IsPrivateFieldFault bytes x) f.0 f.1) (λ magic read_magic h1.
    let t_magic = magic_took private_magic (start bytes) magic fits read_magic in
    let s1 : PrivateStands 1 bytes (magic.1).place (magic.1).rest = stands private_row FitsRow 1 bytes some_row some_key magic.1 fits (magic.1, t_magic, refl) in
    step_err (not_encrypted_at magic.1) _ e h1 (λ bad. header_fails bytes magic.1 e t_magic.rest_fits s1 bad) (λ plain read_plain h2.
    let p = not_encrypted_took magic.1 plain t_magic.rest_fits read_plain in
    let plain_fits = (run_took (string (codes "none") ∷ string (codes "none") ∷ string [] ∷ []) magic.1 plain.1 t_magic.rest_fits p).rest_fits in
    let s4 : PrivateStands 4 bytes (plain.1).place (plain.1).rest = stands private_row FitsRow 4 bytes some_row some_key plain.1 fits (magic.1, t_magic, p) in
    step_err (as_body_error (number_at w32 plain.1)) _ e h2 (λ bad.
    let f = number_fault plain.1 e bad in
    subst (λ (x : BodyError). IsPrivateFieldFault bytes x) (sym f.0) (inl (refl, inr (inl ((plain.1).rest, s4, f.1))))) (λ count read_count h3.
    let t_count = number_took plain.1 count plain_fits read_count in
    step_err (body_wants (eqb count.0 1) errors.KeyCount) _ e h3 (λ bad.
    let f = wants_err (eqb count.0 1) errors.KeyCount e bad in
    subst (λ (x : BodyError). IsPrivateFieldFault bytes x) f.1 ((plain.1).place, count.0, (count.1).rest, subst (λ (r : List ℕ). PrivateStands 4 bytes (plain.1).place r) t_count.0.parts s4, t_count.1, eqb-false count.0 1 f.0)) (λ u1 is_one h4.
    let one : count.0 ≡ 1 = eqb-true count.0 1 (wants_ok (eqb count.0 1) errors.KeyCount u1 is_one) in
    let t_one : Took plain.1 (uint32 1) count.1 = subst (λ (n : ℕ). Took plain.1 (uint32 n) count.1) one t_count.0 in
    let run5 : Run (string (codes "none") ∷ string (codes "none") ∷ string [] ∷ uint32 1 ∷ []) magic.1 count.1 = (p.0, p.1, (p.2.0, p.2.1, (p.2.2.0, p.2.2.1, (count.1, subst (λ (q : Position). Took q (uint32 1) count.1) (sym p.2.2.2) t_one, refl)))) in
    let s5 : PrivateStands 5 bytes (count.1).place (count.1).rest = stands private_row FitsRow 5 bytes some_row some_key count.1 fits (magic.1, t_magic, run5) in
    step_err (key_at count.1) _ e h4 (λ bad. key_fails count.1 e t_count.0.rest_fits bad
    (λ first. let f = text_fault count.1 e first in subst (λ (x : BodyError). IsPrivateFieldFault bytes x) (sym f.0) (inl (refl, inr (inr (inl ((count.1).rest, s5, f.1))))))
    (λ b. subst (λ (x : BodyError). IsPrivateFieldFault bytes x) b.cause.1 ((count.1).place, b.blob, b.rest, subst (λ (r : List ℕ). PrivateStands 5 bytes (count.1).place r) b.stands s5, b.cause.2))) (λ public read_public h5.
    let t_public = key_took count.1 public t_count.0.rest_fits read_public in
    let run6 : Run (take 6 (private_row (public.0, []))) (start bytes) public.1 =
    (magic.1, t_magic, (p.0, p.1, (p.2.0, p.2.1, (p.2.2.0, p.2.2.1, (count.1, subst (λ (q : Position). Took q (uint32 1) count.1) (sym p.2.2.2) t_one, (public.1, t_public.0, refl)))))) in
    let s6 : PrivateStands 6 bytes (public.1).place (public.1).rest = stands private_row FitsRow 6 bytes (public.0, []) t_public.1 public.1 fits run6 in
    step_err (section_start public.1) _ e h5 (λ bad.
    step_err (as_body_error (string_at public.1)) _ e bad (λ first. let f = text_fault public.1 e first in subst (λ (x : BodyError). IsPrivateFieldFault bytes x) (sym f.0) (inl (refl, inr (inr (inr ((public.1).rest, s6, f.1)))))) (λ text read_text g1.
    let t_text = text_took public.1 text t_public.0.rest_fits read_text in
    let run7 : Run (private_row (public.0, text.0)) (start bytes) text.1 =
    (magic.1, t_magic, (p.0, p.1, (p.2.0, p.2.1, (p.2.2.0, p.2.2.1, (count.1, subst (λ (q : Position). Took q (uint32 1) count.1) (sym p.2.2.2) t_one, (public.1, t_public.0, (text.1, t_text.0, refl))))))) in
    let s7 : PrivateStands 7 bytes (text.1).place (text.1).rest = stands private_row FitsRow 7 bytes (public.0, text.0) t_public.1 text.1 fits run7 in
    step_err (last_at text.1) _ e g1 (λ not_last.
    let f = wants_err (eqb (length (text.1).rest) 0) errors.Trailing e not_last in
    subst (λ (x : BodyError). IsPrivateFieldFault bytes x) f.1 ((text.1).place, (text.1).rest, s7, some_more (text.1).rest f.0)) (λ u2 is_last g2.
    let nothing : (text.1).rest ≡ [] = no_rest (text.1).rest (wants_ok (eqb (length (text.1).rest) 0) errors.Trailing u2 is_last) in
    let whole : (public.1).rest ≡ string text.0 = t_text.0.parts ∙ ap (λ (r : List ℕ). string text.0 ++ r) nothing ∙ append-nil (string text.0) in
    step_err (body_wants (eqb (length text.0 % 8) 0) errors.NotMultipleOfEight) _ e g2 (λ odd.
    let f = wants_err (eqb (length text.0 % 8) 0) errors.NotMultipleOfEight e odd in
    subst (λ (x : BodyError). IsPrivateFieldFault bytes x) f.1 ((public.1).place, text.0, subst (λ (r : List ℕ). PrivateStands 6 bytes (public.1).place r) whole s6, eqb-false (length text.0 % 8) 0 f.0))
    (λ u3 even g3. absurd (let none : fine {E = BodyError} (tt, record { place = (public.1).place + 4; rest = text.0 }) ≡ Err e = g3 in cc))))) (λ in_section read_inside h6.
    let t = section_start_took public.1 in_section t_public.0.rest_fits read_inside in
    let row = private_row (public.0, (in_section.1).rest) in
    let run7 : Run row (start bytes) t.after =
    (magic.1, t_magic, (p.0, p.1, (p.2.0, p.2.1, (p.2.2.0, p.2.2.1, (count.1, subst (λ (q : Position). Took q (uint32 1) count.1) (sym p.2.2.2) t_one, (public.1, t_public.0, (t.after, t.took, refl))))))) in
    let t7 = run_took row (start bytes) t.after fits run7 in
    let spelled : bytes ≡ concat row = t7.parts ∙ ap (λ (r : List ℕ). concat row ++ r) t.nothing ∙ append-nil (concat row) in
    let ends : length bytes ≡ (in_section.1).place + length (in_section.1).rest = omega (arith, ap length spelled, t7.place, t.took.place, t.at_text) in
    inside bytes e (record {
      public = public.0;
      section = (in_section.1).rest;
      is_key = t_public.1;
      spelled = spelled;
      whole = t.whole;
      first = (in_section.1).place;
      at = ends;
      fault = section_fault public.0 in_section.1 e t.fits t_public.1.in_range (omega (arith, short, ends)) h6;
    })))))))

-- the first error of bytes that are not a private key body
pub private_fault : (bytes : List ℕ) (e : BodyError) → IsBytes bytes → private_in bytes ≡ Err e → IsPrivateFault bytes e
unfolding private_in
private_fault bytes e fits h = go (ltb longest (length bytes)) refl h
  where
    go : (b : Bool) → ltb longest (length bytes) ≡ b → cond b (Err errors.TooLong) (body_at (start bytes)) ≡ Err e → IsPrivateFault bytes e
    go true long f = inl (ltb-true longest (length bytes) long, sym (err_is {A = PrivateBody} errors.TooLong e f))
    go false long f = inr (ltb-false longest (length bytes) long, body_fault bytes e fits (ltb-false longest (length bytes) long) f)
