-- Sources that are alike have the same vouch file, and after it they are alike.
use Rattle.ssh_program.proofs.Imports.{◌≡◌, ℕ, true, cond, List, Option, Some, None, refl, ap, bytes_eq, SourceState, dash, next_choice, cut_at_empty, Alike, after_vouching, vouched_in}

pub vouching-alike : (vouch : Option (List ℕ)) (a b : SourceState) → Alike a b → Alike (after_vouching vouch a) (after_vouching vouch b)
vouching-alike None a b h = h
vouching-alike (Some v) a b h = record {
  named = h.named;
  input = ap (λ i. cond (bytes_eq v dash) (cut_at_empty true i).1 i) h.input;
  failures = h.failures;
  choices = ap next_choice h.choices;
}

pub vouched-same : (vouch : Option (List ℕ)) (a b : SourceState) → Alike a b → vouched_in vouch a ≡ vouched_in vouch b
vouched-same None a b h = refl
vouched-same (Some v) a b h = rw (h.named, h.input) refl
