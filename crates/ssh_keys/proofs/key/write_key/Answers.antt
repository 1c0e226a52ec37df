use Rattle.ssh_keys.proofs.Imports.{◌++◌, ◌<◌, ◌^◌, ℕ, List, length, refl, sym, ap, subst, ◌∙◌, arith, string, number_of, key_name_of, PublicKey, rsa, p256, p384, p521, ed25519, sk_p256, sk_ed25519, IsKey, key_of}
use Rattle.ssh_keys.proofs.KeyLaws.{name_short}
use Rattle.ssh_keys.proofs.Blobs.{wrote, rsa_short, sk_p256_short, sk_ed25519_short}
use Rattle.ssh_keys.proofs.key.write_key.Goals as goal

pub encode-requires : goal.encode-requires
encode-requires c =
    let is : IsKey (rsa (number_of c.in-Rsa.exponent) (number_of c.in-Rsa.modulus)) = subst (λ (k : PublicKey). IsKey k) (sym c.in-Rsa.ensures) c.args.key.now.is_key in
    let short = rsa_short (number_of c.in-Rsa.exponent) (number_of c.in-Rsa.modulus) is in
    λ k. ((refl, tt), (subst (λ (t : List ℕ). length t < 2 ^ 32) (sym c.name-name.ensures) (name_short c.kind.result), (short.0, short.1)))

pub encode-requires-in-SkP256 : goal.encode-requires-in-SkP256
encode-requires-in-SkP256 c =
    let is : IsKey (sk_p256 c.in-SkP256.point.now c.in-SkP256.application.now) = subst (λ (k : PublicKey). IsKey k) (sym c.in-SkP256.ensures) c.args.key.now.is_key in
    let short = sk_p256_short c.in-SkP256.point.now c.in-SkP256.application.now is in
    let curve : length c.name-in-SkP256.result.now < 2 ^ 32 = subst (λ (t : List ℕ). length t < 2 ^ 32) (sym c.name-in-SkP256.ensures) (omega arith) in
    λ k. ((refl, tt), (subst (λ (t : List ℕ). length t < 2 ^ 32) (sym c.name-name.ensures) (name_short c.kind.result), (curve, (short.0, short.1))))

pub encode-requires-in-SkEd25519 : goal.encode-requires-in-SkEd25519
encode-requires-in-SkEd25519 c =
    let is : IsKey (sk_ed25519 c.in-SkEd25519.public.now c.in-SkEd25519.application.now) = subst (λ (k : PublicKey). IsKey k) (sym c.in-SkEd25519.ensures) c.args.key.now.is_key in
    let short = sk_ed25519_short c.in-SkEd25519.public.now c.in-SkEd25519.application.now is in
    λ k. ((refl, tt), (subst (λ (t : List ℕ). length t < 2 ^ 32) (sym c.name-name.ensures) (name_short c.kind.result), (short.0, short.1)))

pub returns-in-Rsa-clause-ok : goal.returns-in-Rsa-clause-ok
returns-in-Rsa-clause-ok c =
    wrote c.encode.result c.encode.new.out.items c.args.out.now.items _ _ (key_of c.args.key.now) c.name-name.result.now c.in-Rsa.ensures (c.name-name.ensures ∙ ap key_name_of c.kind.ensures) refl c.encode.ensures.ok

pub returns-in-P256-clause-ok : goal.returns-in-P256-clause-ok
returns-in-P256-clause-ok c =
    wrote c.encode-in-P256.result c.encode-in-P256.new.out.items c.args.out.now.items _ (p256 c.in-P256.point.now) (key_of c.args.key.now) c.name-name.result.now c.in-P256.ensures (c.name-name.ensures ∙ ap key_name_of c.kind.ensures)
    (ap (λ (t : List ℕ). string c.name-name.result.now ++ (string t ++ string c.in-P256.point.now)) c.name.ensures) c.encode-in-P256.ensures.ok

pub returns-in-P384-clause-ok : goal.returns-in-P384-clause-ok
returns-in-P384-clause-ok c =
    wrote c.encode-in-P384.result c.encode-in-P384.new.out.items c.args.out.now.items _ (p384 c.in-P384.point.now) (key_of c.args.key.now) c.name-name.result.now c.in-P384.ensures (c.name-name.ensures ∙ ap key_name_of c.kind.ensures)
    (ap (λ (t : List ℕ). string c.name-name.result.now ++ (string t ++ string c.in-P384.point.now)) c.name-in-P384.ensures) c.encode-in-P384.ensures.ok

pub returns-in-P521-clause-ok : goal.returns-in-P521-clause-ok
returns-in-P521-clause-ok c =
    wrote c.encode-in-P521.result c.encode-in-P521.new.out.items c.args.out.now.items _ (p521 c.in-P521.point.now) (key_of c.args.key.now) c.name-name.result.now c.in-P521.ensures (c.name-name.ensures ∙ ap key_name_of c.kind.ensures)
    (ap (λ (t : List ℕ). string c.name-name.result.now ++ (string t ++ string c.in-P521.point.now)) c.name-in-P521.ensures) c.encode-in-P521.ensures.ok

pub returns-in-Ed25519-clause-ok : goal.returns-in-Ed25519-clause-ok
returns-in-Ed25519-clause-ok c =
    wrote c.encode-in-Ed25519.result c.encode-in-Ed25519.new.out.items c.args.out.now.items _ (ed25519 c.in-Ed25519.public.now) (key_of c.args.key.now) c.name-name.result.now c.in-Ed25519.ensures (c.name-name.ensures ∙ ap key_name_of c.kind.ensures)
    refl c.encode-in-Ed25519.ensures.ok

pub returns-in-SkP256-clause-ok : goal.returns-in-SkP256-clause-ok
returns-in-SkP256-clause-ok c =
    wrote c.encode-in-SkP256.result c.encode-in-SkP256.new.out.items c.args.out.now.items _ (sk_p256 c.in-SkP256.point.now c.in-SkP256.application.now) (key_of c.args.key.now) c.name-name.result.now c.in-SkP256.ensures (c.name-name.ensures ∙ ap key_name_of c.kind.ensures)
    (ap (λ (t : List ℕ). string c.name-name.result.now ++ (string t ++ (string c.in-SkP256.point.now ++ string c.in-SkP256.application.now))) c.name-in-SkP256.ensures) c.encode-in-SkP256.ensures.ok

pub returns-in-SkEd25519-clause-ok : goal.returns-in-SkEd25519-clause-ok
returns-in-SkEd25519-clause-ok c =
    wrote c.encode-in-SkEd25519.result c.encode-in-SkEd25519.new.out.items c.args.out.now.items _ (sk_ed25519 c.in-SkEd25519.public.now c.in-SkEd25519.application.now) (key_of c.args.key.now) c.name-name.result.now c.in-SkEd25519.ensures (c.name-name.ensures ∙ ap key_name_of c.kind.ensures)
    refl c.encode-in-SkEd25519.ensures.ok
