-- What the maps of earlier lines find, and that they represent one more line once it is stored.
use Rattle.ssh_findings.proofs.Imports.{◌≡◌, ◌∙◌, ◌||◌, ◌&&◌, ℕ, Bool, true, false, not, cond, List, [], ◌∷◌, ◌++◌, Option, Some, None, ap, sym, refl, arith, bytes_eq, is_some, list_any, KeyKind, pieces_left, EarlierHosts, HostFacts, LeastLines, KindKeys, RevocationFacts, HostLine, Saying, Trusts, Revokes, is_blob, other_line, revokes_blob, revoking, same_kind, same_line, says_shared, spells_blob, trusting, trusting_line, trusts_blob, trusts_other, has_item, is_plain, lesser, line_if, least_other, line_at, other_of_kind, KeepsKeys, KeepsSpellings, RemembersLines, has_names, names_other, says_named}
use Rattle.ssh_findings.specs.Least.{least_line}
use Rattle.ssh_findings.proofs.LeastLemmas.{grown, kept, least_none, least_or, least_same, lesser_assoc, lesser_none}

-- ---- what is found

pub trusting_found : (m : EarlierHosts) (lines : List HostLine) (bytes : List ℕ) → RemembersLines m lines
    → lesser (line_at m.hosts bytes) (line_at m.authorities bytes) ≡ trusting_line lines bytes
trusting_found m lines bytes s =
    ap (λ o. lesser o (line_at m.authorities bytes)) (s.hosts bytes)
    ∙ ap (lesser (least_line (trusts_blob false bytes) lines)) (s.authorities bytes)
    ∙ sym (least_or (trusts_blob false bytes) (trusts_blob true bytes) lines)

pub same_found : (m : EarlierHosts) (lines : List HostLine) (blob : List ℕ) (f : HostFacts) → RemembersLines m lines
    → cond f.is_authority (line_at m.authorities blob) (line_at m.hosts blob) ≡ same_line lines blob f
same_found m lines blob f s = go f.is_authority
  where
    go : (b : Bool) → cond b (line_at m.authorities blob) (line_at m.hosts blob) ≡ least_line (trusts_blob b blob) lines
    go true = s.authorities blob
    go false = s.hosts blob

-- ---- another key for a name

guarded : (a b c p q : Bool) → ((a && (b && (p || q))) && c) ≡ (((a && (b && p)) && c) || ((a && (b && q)) && c))
guarded false b c p q = refl
guarded true false c p q = refl
guarded true true true true q = refl
guarded true true false true q = go q
  where
    go : (q : Bool) → false ≡ (q && false)
    go true = refl
    go false = refl
guarded true true c false q = go c
  where
    go : (c : Bool) → (q && c) ≡ ((false && c) || (q && c))
    go true = refl
    go false = refl

nothing : (c : Bool) → (false && c) ≡ false
nothing c = refl

any-guarded : (a b c : Bool) (test : List ℕ → Bool) (items : List (List ℕ))
    → ((a && (b && list_any test items)) && c) ≡ list_any (λ x. (a && (b && test x)) && c) items
any-guarded a b c test [] = go a b
  where
    go : (a b : Bool) → ((a && (b && false)) && c) ≡ false
    go true true = refl
    go true false = refl
    go false b = refl
any-guarded a b c test (x ∷ xs) =
    guarded a b c (test x) (list_any test xs)
    ∙ ap (λ q. ((a && (b && test x)) && c) || q) (any-guarded a b c test xs)

none-any : (c : Bool) (items : List (List ℕ)) → false ≡ list_any (λ x. false && c) items
none-any c [] = refl
none-any c (x ∷ xs) = none-any c xs

shared-is : (kind : KeyKind) (list : Option (List ℕ)) (says : Saying) (c : Bool)
    → (says_shared kind list says && c) ≡ list_any (λ x. says_named kind x says && c) (pieces_left list)
shared-is kind list (Trusts other is_authority others) c =
    any-guarded (not is_authority) (same_kind other kind) c (λ x. has_item x others) (pieces_left list)
shared-is kind list (Revokes spelling) c = none-any c (pieces_left list)

pub least_found : (m : EarlierHosts) (lines : List HostLine) (kind : KeyKind) (blob : List ℕ) (items : List (List ℕ)) → RemembersLines m lines
    → least_other m.named kind blob items ≡ least_line (λ d. list_any (λ x. names_other kind x blob d) items) lines
least_found m lines kind blob [] s = sym (least_none lines)
least_found m lines kind blob (x ∷ xs) s =
    ap (λ o. lesser o (least_other m.named kind blob xs)) (s.named kind x blob)
    ∙ ap (lesser (least_line (names_other kind x blob) lines)) (least_found m lines kind blob xs s)
    ∙ sym (least_or (names_other kind x blob) (λ d. list_any (λ y. names_other kind y blob d) xs) lines)

pub other_found : (m : EarlierHosts) (lines : List HostLine) (kind : KeyKind) (blob : List ℕ) (list : Option (List ℕ)) → RemembersLines m lines
    → least_other m.named kind blob (pieces_left list) ≡ least_line (trusts_other kind list blob) lines
other_found m lines kind blob list s =
    least_found m lines kind blob (pieces_left list) s
    ∙ sym (least_same (trusts_other kind list blob) (λ d. list_any (λ x. names_other kind x blob d) (pieces_left list)) lines
    (λ d. shared-is kind list d.says (not (bytes_eq d.blob blob))))

pub other_line_found : (m : EarlierHosts) (lines : List HostLine) (blob : List ℕ) (f : HostFacts) (list : Option (List ℕ))
    → f.is_authority ≡ false → f.list ≡ list → RemembersLines m lines
    → least_other m.named f.kind blob (pieces_left list) ≡ other_line lines blob f
other_line_found m lines blob f list role same s =
    other_found m lines f.kind blob list s
    ∙ ap (λ l. least_line (trusts_other f.kind l blob) lines) (sym same)
    ∙ ap (λ b. cond b None (least_line (trusts_other f.kind f.list blob) lines)) (sym role)

-- ---- one more line

-- a map that has one more line for some bytes
abbrev pub HasOneMore : LeastLines → LeastLines → List ℕ → ℕ → Type 0
HasOneMore old new bytes n =
    (other : List ℕ) → line_at new other ≡ cond (bytes_eq bytes other) (lesser (line_at old other) (Some n)) (line_at old other)

-- one more line in a map that was prepared, where each text had its old line
pub more_prepared : (old prepared new : LeastLines) (bytes : List ℕ) (n : ℕ)
    → ((other : List ℕ) → line_at prepared other ≡ line_at old other) → HasOneMore prepared new bytes n → HasOneMore old new bytes n
more_prepared old prepared new bytes n same more other =
    more other ∙ ap (λ o. cond (bytes_eq bytes other) (lesser o (Some n)) o) (same other)

if-line : (b : Bool) (o : Option ℕ) (n : ℕ) → cond b (lesser o (Some n)) o ≡ lesser o (line_if b n)
if-line true o n = refl
if-line false o n = sym (lesser_none o)

-- a map that has one more line for a text, if there is one
abbrev pub HasSomeMore : LeastLines → LeastLines → Option (List ℕ) → ℕ → Type 0
HasSomeMore old new text n =
    (other : List ℕ) → line_at new other ≡ cond (is_blob text other) (lesser (line_at old other) (Some n)) (line_at old other)

some-more : (old new : LeastLines) (lines : List HostLine) (d : HostLine) (text : Option (List ℕ)) → HasSomeMore old new text d.line
    → ((blob : List ℕ) → line_at old blob ≡ least_line (spells_blob blob) lines) → ((blob : List ℕ) → spells_blob blob d ≡ is_blob text blob)
    → (blob : List ℕ) → line_at new blob ≡ least_line (spells_blob blob) (lines ++ d ∷ [])
some-more old new lines d text more stands on blob =
    grown (line_at old blob) (line_at new blob) (spells_blob blob) lines d (stands blob)
    (more blob ∙ if-line (is_blob text blob) (line_at old blob) d.line ∙ ap (λ b. lesser (line_at old blob) (line_if b d.line)) (sym (on blob)))

one-more : (old new : LeastLines) (test : List ℕ → HostLine → Bool) (lines : List HostLine) (d : HostLine) → HasOneMore old new d.blob d.line
    → ((blob : List ℕ) → line_at old blob ≡ least_line (test blob) lines) → ((blob : List ℕ) → test blob d ≡ bytes_eq d.blob blob)
    → (blob : List ℕ) → line_at new blob ≡ least_line (test blob) (lines ++ d ∷ [])
one-more old new test lines d more stands on blob =
    grown (line_at old blob) (line_at new blob) (test blob) lines d (stands blob)
    (more blob ∙ if-line (bytes_eq d.blob blob) (line_at old blob) d.line ∙ ap (λ b. lesser (line_at old blob) (line_if b d.line)) (sym (on blob)))

pub one_more_revocation : (m : EarlierHosts) (revoked spelled : LeastLines) (n : ℕ) (bytes : List ℕ) (f : RevocationFacts) (lines : List HostLine)
    → HasOneMore m.revoked revoked bytes n → HasSomeMore m.spelled spelled f.spelling n → RemembersLines m lines
    → RemembersLines (record { hosts = m.hosts; authorities = m.authorities; revoked = revoked; spelled = spelled; named = m.named }) (lines ++ revoking n bytes f ∷ [])
one_more_revocation m revoked spelled n bytes f lines more some s = record {
  hosts = λ blob. kept _ (trusts_blob false blob) lines (revoking n bytes f) (s.hosts blob) refl;
  authorities = λ blob. kept _ (trusts_blob true blob) lines (revoking n bytes f) (s.authorities blob) refl;
  revoked = one-more m.revoked revoked revokes_blob lines (revoking n bytes f) more s.revoked (λ blob. refl);
  spelled = some-more m.spelled spelled lines (revoking n bytes f) f.spelling some s.spelled (λ blob. refl);
  named = λ kind item blob. kept _ (names_other kind item blob) lines (revoking n bytes f) (s.named kind item blob) refl;
}

pub one_more_authority : (m : EarlierHosts) (authorities : LeastLines) (n : ℕ) (blob : List ℕ) (f : HostFacts) (lines : List HostLine)
    → f.is_authority ≡ true → HasOneMore m.authorities authorities blob n → RemembersLines m lines
    → RemembersLines (record { hosts = m.hosts; authorities = authorities; revoked = m.revoked; spelled = m.spelled; named = m.named }) (lines ++ trusting n blob f ∷ [])
one_more_authority m authorities n own f lines role more s = record {
  hosts = λ blob. kept _ (trusts_blob false blob) lines (trusting n own f) (s.hosts blob) (ap (λ b. not b && bytes_eq own blob) role);
  authorities =
      one-more m.authorities authorities (trusts_blob true) lines (trusting n own f) more s.authorities
      (λ blob. ap (λ b. b && bytes_eq own blob) role);
  revoked = λ blob. kept _ (revokes_blob blob) lines (trusting n own f) (s.revoked blob) refl;
  spelled = λ blob. kept _ (spells_blob blob) lines (trusting n own f) (s.spelled blob) refl;
  named = λ kind item blob.
      kept _ (names_other kind item blob) lines (trusting n own f) (s.named kind item blob)
      (ap (λ b. (not b && (same_kind f.kind kind && has_item item f.list)) && not (bytes_eq own blob)) role);
}

-- names that have one more key for each plain item of a list
abbrev pub HasOneMoreKey : KindKeys → KindKeys → KeyKind → Option (List ℕ) → ℕ → List ℕ → Type 0
HasOneMoreKey old new kind list n own =
    (k : KeyKind) (item blob : List ℕ) → other_of_kind new k item blob
    ≡ lesser (other_of_kind old k item blob) (line_if ((same_kind kind k && has_item item list) && not (bytes_eq own blob)) n)

pub one_more_host : (m : EarlierHosts) (hosts : LeastLines) (named : KindKeys) (n : ℕ) (blob : List ℕ) (f : HostFacts) (lines : List HostLine)
    → f.is_authority ≡ false → HasOneMore m.hosts hosts blob n → HasOneMoreKey m.named named f.kind f.list n blob → RemembersLines m lines
    → RemembersLines (record { hosts = hosts; authorities = m.authorities; revoked = m.revoked; spelled = m.spelled; named = named }) (lines ++ trusting n blob f ∷ [])
one_more_host m hosts named n own f lines role more keys s = record {
  hosts =
      one-more m.hosts hosts (trusts_blob false) lines (trusting n own f) more s.hosts
      (λ blob. ap (λ b. not b && bytes_eq own blob) role);
  authorities = λ blob. kept _ (trusts_blob true blob) lines (trusting n own f) (s.authorities blob) (ap (λ b. b && bytes_eq own blob) role);
  revoked = λ blob. kept _ (revokes_blob blob) lines (trusting n own f) (s.revoked blob) refl;
  spelled = λ blob. kept _ (spells_blob blob) lines (trusting n own f) (s.spelled blob) refl;
  named = λ kind item blob.
      grown (other_of_kind m.named kind item blob) (other_of_kind named kind item blob) (names_other kind item blob) lines (trusting n own f) (s.named kind item blob)
      (keys kind item blob
      ∙ ap (λ b. lesser (other_of_kind m.named kind item blob) (line_if ((not b && (same_kind f.kind kind && has_item item f.list)) && not (bytes_eq own blob)) n)) (sym role));
}

-- the lines that the maps represent, by equal look-ups
pub stands_still : (old new : EarlierHosts) (lines : List HostLine) → KeepsKeys old new → KeepsSpellings old new
    → ((kind : KeyKind) (item blob : List ℕ) → other_of_kind new.named kind item blob ≡ other_of_kind old.named kind item blob)
    → RemembersLines old lines → RemembersLines new lines
stands_still old new lines keys spellings named s = record {
  hosts = λ blob. keys.hosts blob ∙ s.hosts blob;
  authorities = λ blob. keys.authorities blob ∙ s.authorities blob;
  revoked = λ blob. keys.revoked blob ∙ s.revoked blob;
  spelled = λ blob. spellings blob ∙ s.spelled blob;
  named = λ kind item blob. named kind item blob ∙ s.named kind item blob;
}

-- an authority has no names to keep its key for, and hashed names are none
pub named_none : (f : HostFacts) (list : List ℕ) → f.is_authority ≡ false → f.list ≡ Some list → has_names f ≡ false → ⊥
named_none f list role listed none = let bad : true ≡ false = sym (ap (λ o. not f.is_authority && is_some o) listed ∙ ap (λ b. not b && true) role) ∙ none in cc

-- hashed names add no key to a name
pub no_key : (m : KindKeys) (kind : KeyKind) (n : ℕ) (blob : List ℕ) → HasOneMoreKey m m kind None n blob
no_key m kind n own k item blob =
    sym (lesser_none (other_of_kind m k item blob))
    ∙ ap (λ b. lesser (other_of_kind m k item blob) (line_if b n)) (go (same_kind kind k) (is_plain item) (not (bytes_eq own blob)))
  where
    go : (a p c : Bool) → false ≡ ((a && (p && false)) && c)
    go true true c = refl
    go true false c = refl
    go false p c = refl

-- the key of hashed names was not stored: the lines are as they were
pub entry_undone : (m : EarlierHosts) (hosts : LeastLines) (named : KindKeys) (n : ℕ) (blob : List ℕ) (f : HostFacts) (lines : List HostLine)
    → f.is_authority ≡ false → has_names f ≡ false
    → ((other : List ℕ) → line_at hosts other ≡ line_at m.hosts other) → HasOneMoreKey m.named named f.kind f.list n blob → RemembersLines m lines
    → RemembersLines (record { hosts = hosts; authorities = m.authorities; revoked = m.revoked; spelled = m.spelled; named = named }) lines
entry_undone m hosts named n own f lines role none same keys s = record {
  hosts = λ blob. same blob ∙ s.hosts blob;
  authorities = s.authorities;
  revoked = s.revoked;
  spelled = s.spelled;
  named = λ kind item blob. keys kind item blob ∙ go kind item blob f.list refl ∙ s.named kind item blob;
}
  where
    go : (kind : KeyKind) (item blob : List ℕ) (list : Option (List ℕ)) → f.list ≡ list
        → lesser (other_of_kind m.named kind item blob) (line_if ((same_kind f.kind kind && has_item item f.list) && not (bytes_eq own blob)) n)
        ≡ other_of_kind m.named kind item blob
    go kind item blob None e =
        ap (λ l. lesser (other_of_kind m.named kind item blob) (line_if ((same_kind f.kind kind && has_item item l) && not (bytes_eq own blob)) n)) e
        ∙ sym (no_key m.named f.kind n own kind item blob)
    go kind item blob (Some list) e = absurd (named_none f list role e none)

-- ---- one more key for a piece of a list

pub folded : (old : Option ℕ) (r nb : Bool) (n : ℕ) → lesser (lesser old (line_if nb n)) (line_if (r && nb) n) ≡ lesser old (line_if nb n)
folded old true true n = lesser_assoc old (Some n) (Some n) ∙ ap (λ l. lesser old (Some l)) (omega arith)
folded old true false n = lesser_none (lesser old None)
folded old false nb n = lesser_none (lesser old (line_if nb n))

-- the piece is plain, so where it is the item, so is the item
pub piece_kept : (old : Option ℕ) (same is plain r nb : Bool) (n : ℕ) → (is ≡ true → plain ≡ true)
    → lesser (cond (same && is) (lesser old (line_if nb n)) old) (line_if ((same && (plain && r)) && nb) n)
    ≡ lesser old (line_if ((same && (plain && (is || r))) && nb) n)
piece_kept old false is plain r nb n h = refl
piece_kept old true false plain r nb n h = refl
piece_kept old true true true r nb n h = folded old r nb n
piece_kept old true true false r nb n h = let bad : false ≡ true = h refl in cc
