use Rattle.std.proofs.Common.{◌≡◌, ℕ, ◌<◌, ◌≤◌, Bool, true, List, Option, Some, None, length, get_or, sym, ap, ◌∙◌, arith, rules}
use Rattle.std.specs.Option.{MatchOption}
use Rattle.records.specs.declared.rows.Participant.{Participant}
use Rattle.records.specs.Capacity.{share_of}
use Rattle.records.specs.Rows.{is_participant, shares_in_range}
use Rattle.records.specs.Tables.{find, place}
use Rattle.records.proofs.Ranges.{share_at}
use Rattle.records.proofs.Searches.{stands, nowhere}
use Rattle.reserved.specs.Reserved.{items}
use Rattle.book.proofs.Permitting.{nobody}
use Rattle.book.proofs.tables.Book.share_of.Goals as goal

-- the share read where the row stands, or 0 where it stands nowhere
share_read : (fits : Participant → Bool) (rows : List Participant) (o : Option ℕ) (share : ℕ) {Q : ℕ → Type 0} → o ≡ place fits rows → shares_in_range rows ≡ true →
    MatchOption o (share ≡ 0) Q → ((at : ℕ) → at < length rows → Q at → share ≡ (get_or rows at nobody).share) → (share ≡ share_of (find fits rows)) × (share ≤ 1000)
share_read fits rows None share at shares none read = (none ∙ sym (ap share_of (nowhere fits rows (sym at))), omega arith)
share_read fits rows (Some i) share at shares some read =
    let s = stands fits rows i (sym at) in
    let r = read i s.within some in
    let most = share_at rows i nobody shares s.within in
    (r ∙ sym (ap share_of (s.found nobody)), omega arith)

pub returns : goal.returns
returns g c =
    let share = share_read (is_participant c.args.participant) (items c.args.self.now.participants) c.participant_at.result c.map_or.result
    c.participant_at.ensures.first_match c.args.self.now.shares c.map_or.ensures (λ at within q. search rules) in
    record { value = share.0; bound = share.1 }
