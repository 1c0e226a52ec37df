use Rattle.ssh_trust.proofs.Imports.{take, subst, refl, arith, Consumes, err_from_is_err_and, HasFound}
use Rattle.ssh_trust.proofs.ReadLemmas.{ends-read, fed-partly, fed-unread, fed-whole, feeding-more, feeding-none, refusal}
use Rattle.ssh_trust.proofs.search.Pieces.feed_from.Goals as goal

pub loop-n-init : goal.loop-n-init
loop-n-init g c = record {
  unfailed = g.met.R.Source.begins c.args.reader.now;
  fed = λ claim bytes h. feeding-none (HasFound g.T.Matcher.claimed g.T.Matcher.nothing g.T.Matcher.add g.T.Matcher.most g.T.Matcher.least claim) c.args.self.now bytes (g.R.Source.left c.args.reader.now) h;
  bounded = λ h. h;
  line = λ h. h;
}

pub loop-n-preserved : goal.loop-n-preserved
loop-n-preserved g c =
    let fed = c.in_ok-feed-in-Ok.ensures in
    let before = c.loop-n.invariant in
    record {
      unfailed = c.in-Ok.ensures.unfailed c.args.reader.now before.unfailed;
      fed = λ claim bytes h.
          feeding-more (HasFound g.T.Matcher.claimed g.T.Matcher.nothing g.T.Matcher.add g.T.Matcher.most g.T.Matcher.least claim) c.loop-n.self c.feed.new.self bytes (take c.in-Ok.n c.read_piece.new.buf) (g.R.Source.left c.args.reader.now)
          (g.R.Source.left c.loop-n.reader) (g.R.Source.left c.read_piece.new.self) (before.fed claim bytes h) c.in-Ok.ensures.bytes.0 fed.octets fed.short fed.sound
          (λ used k. fed.read claim used k);
      bounded = λ h. c.feed.ensures.bounded (before.bounded h);
      line = λ h. c.feed.ensures.line (before.line h);
    }

-- the reader's end
pub returns-in-Ok-eq0-clause-read : goal.returns-in-Ok-eq0-clause-read
returns-in-Ok-eq0-clause-read g c read = absurd (ends-read read)

pub returns-in-Ok-eq0-clause-unfailed : goal.returns-in-Ok-eq0-clause-unfailed
returns-in-Ok-eq0-clause-unfailed g c not = c.in-Ok-eq0.ensures.unfailed c.args.reader.now c.loop-n.invariant.unfailed

pub returns-in-Ok-eq0-clause-fed : goal.returns-in-Ok-eq0-clause-fed
returns-in-Ok-eq0-clause-fed g c claim bytes h =
    let given = c.in-Ok-eq0.ensures.bytes in
    let old = g.R.Source.left c.loop-n.reader in
    let new = g.R.Source.left c.read_piece.new.self in
    let same = c.read_piece.auto.buf in
    fed-whole (HasFound g.T.Matcher.claimed g.T.Matcher.nothing g.T.Matcher.add g.T.Matcher.most g.T.Matcher.least claim) c.loop-n.self bytes (g.R.Source.left c.args.reader.now) old new (c.loop-n.invariant.fed claim bytes h)
    (subst (λ n. Consumes old new (take n c.read_piece.new.buf)) c.in-Ok-eq0.field-0-test given.0)
    (given.1 c.in-Ok-eq0.field-0-test (omega (arith, same)))

pub returns-in-Ok-eq0-clause-left : goal.returns-in-Ok-eq0-clause-left
returns-in-Ok-eq0-clause-left g c = tt

-- a piece that was refused
pub returns-in_err-feed-in-Ok-clause-fed : goal.returns-in_err-feed-in-Ok-clause-fed
returns-in_err-feed-in-Ok-clause-fed g c claim bytes h =
    let p = err_from_is_err_and c.from_residual.result c.from_residual.ensures.1 in
    let fed = c.in_err-feed-in-Ok.ensures in
    rw (p.1, p.2)
    (fed-partly (HasFound g.T.Matcher.claimed g.T.Matcher.nothing g.T.Matcher.add g.T.Matcher.most g.T.Matcher.least claim) c.loop-n.self c.feed.new.self bytes (take c.in-Ok.n c.read_piece.new.buf) (g.R.Source.left c.args.reader.now)
    (g.R.Source.left c.loop-n.reader) (g.R.Source.left c.read_piece.new.self) _ (c.loop-n.invariant.fed claim bytes h) c.in-Ok.ensures.bytes.0
    (let same = c.read_piece.auto.buf in let bound = c.in-Ok.ensures.bound.0 in let size = c.in-Ok.ensures.bound.1 in omega (arith, same, bound, size))
    (refusal _ _ _ fed.failed fed.too_long fed.else_memory))

-- a read that failed
pub returns-in-Err-clause-read : goal.returns-in-Err-clause-read
returns-in-Err-clause-read g c read = c.in-Err.ensures.failed c.args.reader.now c.loop-n.invariant.unfailed

pub returns-in-Err-clause-unfailed : goal.returns-in-Err-clause-unfailed
returns-in-Err-clause-unfailed g c not = absurd (not refl)

pub returns-in-Err-clause-left : goal.returns-in-Err-clause-left
returns-in-Err-clause-left g c = refl

pub returns-in-Err-clause-fed : goal.returns-in-Err-clause-fed
returns-in-Err-clause-fed g c claim bytes h =
    fed-unread (HasFound g.T.Matcher.claimed g.T.Matcher.nothing g.T.Matcher.add g.T.Matcher.most g.T.Matcher.least claim) c.loop-n.self _ bytes (g.R.Source.left c.args.reader.now) (g.R.Source.left c.loop-n.reader)
    (g.R.Source.left c.read_piece.new.self) (c.loop-n.invariant.fed claim bytes h) c.in-Err.ensures.bytes
