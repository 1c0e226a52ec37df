-- The total of a page is that of the other formats, file by file.
use Rattle.ssh_program.proofs.Imports.{◌≡◌, ◌∙◌, ◌++◌, ℕ, Bool, true, false, List, [], length, Option, Some, Result, Ok, Err, refl, Asking, Form, TooLong, ReviewKind, Auth, Known, file_limit, fault_review, lines_before, telling_review, with_file, if◌then◌else◌}
use Rattle.std.specs.Prelude.{nat_lt}
use Rattle.ssh_page.specs.declared.file.FileKind.{FileKind}
use Rattle.ssh_page.specs.declared.file.FileKind.TheVariants.{AuthorizedKeys, KnownHosts}
use Rattle.ssh_review.specs.declared.end.FileFault.TheVariants.{Unread}
use Rattle.ssh_files.specs.declared.files.UnreadCause.{UnreadCause}
use Rattle.ssh_review.specs.declared.end.Total.{Total}
use Rattle.ssh_review.specs.Counting.{no_counts}
use Rattle.ssh_review.specs.DistinctKeys.{distinct_keys, file_keys}
use Rattle.ssh_review.specs.declared.end.Counts.{Counts}
use Rattle.ssh_review.specs.declared.end.FileFault.{FileFault}
use Rattle.ssh_review.specs.FileNames.{NameSeen, file_head}
use Rattle.ssh_review.specs.ShownRecords.{host_shown_whole_review, shown_whole_review}
use Rattle.ssh_review.specs.declared.show.Show.{Show}
use Rattle.ssh_program.specs.FileReviews.{Lines, keys_within}
use Rattle.ssh_program.specs.PageReviews.{CountsAs, PageSofar, given_bytes, given_kept, given_keys, no_page, telling_given, with_given}
use Rattle.ssh_program.specs.Totals.{with_counted}

-- the keys of a file are the same
keys-alike : (kind : FileKind) (file : List ℕ) (long : Bool) → given_keys kind (if long then Err TooLong else Ok file) ≡ (if long then [] else file_keys kind file)
keys-alike kind file true = refl
keys-alike kind file false = refl

-- whether the file is past the limit or not
auth-alike : (show : Show) (form : Form) (asking : Asking) (name file : List ℕ) (t : Total) (keys : Option ℕ) (long : Bool)
    → with_counted t keys (given_kept AuthorizedKeys asking (if long then Err TooLong else Ok file)).counts (given_kept AuthorizedKeys asking (if long then Err TooLong else Ok file)).fault
    ≡ with_counted t keys (if long then fault_review form name TooLong else shown_whole_review show form asking name file).counts (if long then fault_review form name TooLong else shown_whole_review show form asking name file).fault
unfolding shown_whole_review
auth-alike show form asking name file t keys true = refl
auth-alike show form asking name file t keys false = refl

known-alike : (show : Show) (form : Form) (asking : Asking) (name file : List ℕ) (t : Total) (keys : Option ℕ) (long : Bool)
    → with_counted t keys (given_kept KnownHosts asking (if long then Err TooLong else Ok file)).counts (given_kept KnownHosts asking (if long then Err TooLong else Ok file)).fault
    ≡ with_counted t keys (if long then fault_review form name TooLong else host_shown_whole_review show form asking name file).counts (if long then fault_review form name TooLong else host_shown_whole_review show form asking name file).fault
unfolding host_shown_whole_review
known-alike show form asking name file t keys true = refl
known-alike show form asking name file t keys false = refl

pub none-total : (form : Form) → CountsAs no_page (lines_before form)
none-total form = record { total = refl; keys = refl }

counted-alike : (page : PageSofar) (reported : Lines) (ks ls : List (List ℕ)) (counts : Counts) (fault : Option FileFault) → CountsAs page reported → ks ≡ ls
    → with_counted page.total (distinct_keys (page.keys ++ ks)) counts fault ≡ with_counted reported.total (distinct_keys (reported.keys ++ ls)) counts fault
counted-alike page reported ks ls counts fault is same = rw (is.total, is.keys, same) refl

keys-behind : (page : PageSofar) (reported : Lines) (ks ls : List (List ℕ)) → CountsAs page reported → ks ≡ ls → page.keys ++ ks ≡ reported.keys ++ ls
keys-behind page reported ks ls is same = rw (is.keys, same) refl

pub read-total : (kind : ReviewKind) (show : Show) (form : Form) (asking : Asking) (page : PageSofar) (reported : Lines) (name : NameSeen) (given : Result (List ℕ) UnreadCause) → CountsAs page reported
    → CountsAs (with_given kind asking page (telling_given.of_bytes name given)) (with_file reported ((telling_review kind show form asking).of_bytes name given))
read-total kind show form asking page reported name (Err cause) is = record {
  total = counted-alike page reported [] [] no_counts (Some (Unread cause)) is refl;
  keys = keys-behind page reported [] [] is refl;
}
read-total Auth show form asking page reported name (Ok file) is =
    let keys = keys_within AuthorizedKeys file in
    let kept = given_kept AuthorizedKeys asking (given_bytes (Ok file)) in
    let same : given_keys AuthorizedKeys (given_bytes (Ok file)) ≡ keys = keys-alike AuthorizedKeys file (nat_lt file_limit (length file)) in
    record {
      total = counted-alike page reported (given_keys AuthorizedKeys (given_bytes (Ok file))) keys kept.counts kept.fault is same
          ∙ auth-alike show form asking (file_head form name) file reported.total (distinct_keys (reported.keys ++ keys)) (nat_lt file_limit (length file));
      keys = keys-behind page reported (given_keys AuthorizedKeys (given_bytes (Ok file))) keys is same;
    }
read-total Known show form asking page reported name (Ok file) is =
    let keys = keys_within KnownHosts file in
    let kept = given_kept KnownHosts asking (given_bytes (Ok file)) in
    let same : given_keys KnownHosts (given_bytes (Ok file)) ≡ keys = keys-alike KnownHosts file (nat_lt file_limit (length file)) in
    record {
      total = counted-alike page reported (given_keys KnownHosts (given_bytes (Ok file))) keys kept.counts kept.fault is same
          ∙ known-alike show form asking (file_head form name) file reported.total (distinct_keys (reported.keys ++ keys)) (nat_lt file_limit (length file));
      keys = keys-behind page reported (given_keys KnownHosts (given_bytes (Ok file))) keys is same;
    }

pub failed-total : (kind : ReviewKind) (show : Show) (form : Form) (asking : Asking) (page : PageSofar) (reported : Lines) (name : NameSeen) (cause : UnreadCause) → CountsAs page reported
    → CountsAs (with_given kind asking page (telling_given.of_fault name cause)) (with_file reported ((telling_review kind show form asking).of_fault name cause))
failed-total kind show form asking page reported name cause is = record {
  total = counted-alike page reported [] [] no_counts (Some (Unread cause)) is refl;
  keys = keys-behind page reported [] [] is refl;
}
