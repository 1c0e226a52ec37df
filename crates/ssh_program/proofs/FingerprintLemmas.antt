-- A fingerprint's text and the digest that it gives are one.
use Rattle.ssh_program.proofs.Imports.{◌≡◌, ◌∙◌, ◌++◌, ℕ, zero, suc, Bool, true, false, cond, List, [], ◌∷◌, length, drop, take, Some, None, Result, Ok, Err, refl, sym, ap, arith, codes, standard}
use Rattle.base64.proofs.EngineFacts.{decode_of-encode_of, decode_of_strict}
use Rattle.base64.proofs.RoundTrip.{length-encode_symbols}
use Rattle.base64.specs.GeneralPurpose.{decode_of, encode_of}
use Rattle.base64.specs.Rfc4648.{encode_symbols, padding_len, unpadded_len}
use Rattle.base64.specs.declared.decode.DecodeError.{DecodeError}
use Rattle.std.proofs.lemmas.Bool.{eq-eqb, eqb-true}
use Rattle.std.proofs.lemmas.Bool.Decides.{Decides-eqb}
use Rattle.std.proofs.lemmas.Slice.Eq.{starts_is}
use Rattle.std.specs.Prelude.{◌==◌, replicate}
use Rattle.ssh_entries.proofs.ByteLemmas.{IsBytes-from_all}
use Rattle.ssh_keys.specs.Fingerprint.{digest_text_of}
use Rattle.ssh_offers.specs.FirstRefusal.{AreBytes}
use Rattle.ssh_program.specs.FingerprintValues.{digest_in, fingerprint_bytes, if_thirty_two, is_fingerprint}

-- ---- from the text to the digest

padded-bytes : (text : List ℕ) → AreBytes text → AreBytes (text ++ codes "=")
padded-bytes [] h = (omega arith, tt)
padded-bytes (c ∷ cs) h = (h.0, padded-bytes cs h.1)

dropped-bytes : (n : ℕ) (text : List ℕ) → AreBytes text → AreBytes (drop n text)
dropped-bytes zero text h = h
dropped-bytes (suc n) [] h = tt
dropped-bytes (suc n) (c ∷ cs) h = dropped-bytes n cs h.1

front-taken : (text rest : List ℕ) → take (length text) (text ++ rest) ≡ text
front-taken [] rest = refl
front-taken (c ∷ cs) rest = ap (λ t. c ∷ t) (front-taken cs rest)

are-thirty-two : (read : Result (List ℕ) DecodeError) (digest : List ℕ) → if_thirty_two read ≡ Some digest → read ≡ Ok digest
are-thirty-two (Err e) digest h = cc
are-thirty-two (Ok bytes) digest h = by (length bytes == 32) h
  where
    by : (b : Bool) → cond b (Some bytes) None ≡ Some digest → ◌≡◌ {A = Result (List ℕ) DecodeError} (Ok bytes) (Ok digest)
    by true e = cc
    by false e = cc

digest-spelled : (text digest : List ℕ) → AreBytes text → digest_in text ≡ Some digest → text ≡ digest_text_of digest
unfolding digest_in digest_text_of
digest-spelled text digest bytes h = by (length text == 43) refl h
  where
    by : (b : Bool) → (length text == 43) ≡ b → cond b (if_thirty_two (decode_of standard (text ++ codes "="))) None ≡ Some digest → text ≡ take 43 (encode_of standard digest)
    by true is e =
        let long : length text ≡ 43 = eqb-true (length text) 43 is in
        let all = IsBytes-from_all (text ++ codes "=") (padded-bytes text bytes) in
        let whole : text ++ codes "=" ≡ encode_of standard digest = decode_of_strict standard (text ++ codes "=") digest (refl, refl) all (are-thirty-two _ digest e) in
        sym (front-taken text (codes "=")) ∙ (ap (λ (n : ℕ). take n (text ++ codes "=")) long ∙ ap (take 43) whole)
    by false is e = cc

pub fingerprint_spelled : (text digest : List ℕ) → AreBytes text → fingerprint_bytes text ≡ Some digest → text ≡ codes "SHA256:" ++ digest_text_of digest
fingerprint_spelled text digest bytes h = by (is_fingerprint text) refl h
  where
    by : (b : Bool) → is_fingerprint text ≡ b → cond b (digest_in (drop 7 text)) None ≡ Some digest → text ≡ codes "SHA256:" ++ digest_text_of digest
    by true is e =
        let front : text ≡ codes "SHA256:" ++ drop 7 text = (starts_is Decides-eqb text (codes "SHA256:") true (sym is)).0 refl in
        front ∙ ap (λ t. codes "SHA256:" ++ t) (digest-spelled (drop 7 text) digest (dropped-bytes 7 text bytes) e)
    by false is e = cc

-- ---- from the digest to the text

abbrev symbols_of : List ℕ → List ℕ
symbols_of digest = encode_symbols standard.encode_table digest

whole-text : (digest : List ℕ) → length digest ≡ 32 → encode_of standard digest ≡ symbols_of digest ++ codes "="
whole-text digest h = ap (λ (n : ℕ). symbols_of digest ++ replicate (padding_len n) 61) h

symbols-long : (digest : List ℕ) → length digest ≡ 32 → length (symbols_of digest) ≡ 43
symbols-long digest h = length-encode_symbols standard.encode_table digest ∙ ap unpadded_len h

text-is : (digest : List ℕ) → length digest ≡ 32 → digest_text_of digest ≡ symbols_of digest
unfolding digest_text_of
text-is digest h =
    ap (take 43) (whole-text digest h)
    ∙ (ap (λ (n : ℕ). take n (symbols_of digest ++ codes "=")) (sym (symbols-long digest h)) ∙ front-taken (symbols_of digest) (codes "="))

symbols-again : (digest : List ℕ) → length digest ≡ 32 → AreBytes digest → digest_in (symbols_of digest) ≡ Some digest
unfolding digest_in
symbols-again digest h bytes =
    let read = decode_of standard (symbols_of digest ++ codes "=") in
    let decoded : read ≡ Ok digest = ap (decode_of standard) (sym (whole-text digest h)) ∙ decode_of-encode_of standard digest refl (IsBytes-from_all digest bytes) in
    ap (λ (b : Bool). cond b (if_thirty_two read) None) (eq-eqb (length (symbols_of digest)) 43 (symbols-long digest h))
    ∙ (ap if_thirty_two decoded ∙ ap (λ (b : Bool). cond b (Some digest) None) (eq-eqb (length digest) 32 h))

pub fingerprint_again : (digest : List ℕ) → length digest ≡ 32 → AreBytes digest → fingerprint_bytes (codes "SHA256:" ++ digest_text_of digest) ≡ Some digest
fingerprint_again digest h bytes = ap digest_in (text-is digest h) ∙ symbols-again digest h bytes
