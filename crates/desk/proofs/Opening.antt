-- A book opened by a line follows the market named. Assumes nothing.
use Rattle.std.proofs.Common.{◌≡◌, false, [], ◌∷◌, is_some, Some, None, Ok, Option, sym, refl, ap, ◌∙◌, subst, inl}
use Rattle.std.specs.Option.{option_map}
use Rattle.market.specs.declared.any.Market.{Market}
use Rattle.market.specs.declared.any.Market.TheVariants as market
use Rattle.market.specs.declared.units.Price.{Price}
use Rattle.market.specs.declared.weeks.Weeks.{Weeks}
use Rattle.market.specs.Rules.{any}
use Rattle.records.specs.declared.call.Terms.{Terms}
use Rattle.records.specs.Refusals.{◌when◌, due}
use Rattle.records.specs.Calls.{terms_input}
use Rattle.records.proofs.Refusing.{due_second}
use Rattle.book.specs.declared.tables.Book as tables
use Rattle.book.specs.Opening.{Opens}
use Rattle.book.specs.View.{state}
use Rattle.desk.specs.declared.command.Command.TheVariants.{Open}
use Rattle.desk.specs.declared.command.MarketName.{MarketName}
use Rattle.desk.specs.declared.command.MarketName.TheVariants.{Xbid, Mpeg, Pce}
use Rattle.desk.specs.declared.fault.LineFault.TheVariants.{AlreadyOpen, Book}
use Rattle.desk.specs.Commands.{Follows}
use Rattle.desk.specs.Lines.{Books, Fresh, Commanded, CommandedBy, against_book, of_book, zeros}
use Rattle.desk.proofs.Commanding.{due_of_book}

-- a desk has a book exactly where its book's state is seen
pub seen_where_open : {X Y : Type 0} (f : X → Y) (o : Option X) → is_some (option_map f o) ≡ is_some o
seen_where_open f None = refl
seen_where_open f (Some x) = refl

follows_published : (name : MarketName) (rule : Market) (price : Price) → Follows name rule → Follows name (any.published rule price)
follows_published Xbid (market.Xbid rule) price f = tt
follows_published Xbid (market.Mpeg rule) price f = f
follows_published Xbid (market.Pce rule) price f = f
follows_published Mpeg (market.Xbid rule) price f = f
follows_published Mpeg (market.Mpeg rule) price f = tt
follows_published Mpeg (market.Pce rule) price f = f
follows_published Pce (market.Xbid rule) price f = f
follows_published Pce (market.Mpeg rule) price f = f
follows_published Pce (market.Pce rule) price f = tt

read_back : (rule : Market) (price : Price) → any.reference (any.published rule price) ≡ price
read_back (market.Xbid rule) price = refl
read_back (market.Mpeg rule) price = refl
read_back (market.Pce rule) price = refl

module _ (name : MarketName) (terms : Terms) where
  fresh : (rule : Market) (book : tables.Book Market Weeks) → Follows name rule → Opens any rule (record {}) terms (Ok book) → Fresh name terms (Some (state book))
  fresh rule book f o =
      let p = o.2 in
      record {
        rule = book.rule;
        follows = subst (Follows name) (sym p.replaced) (follows_published name rule p.price f);
        reference = ap (λ r. (any.reference r).cents) p.replaced ∙ ap (λ q. q.cents) (read_back rule p.price) ∙ p.of_the_terms;
        empty = ap Some o.1;
      }

  none_due : (before : Books) → due (terms_input terms) ≡ None → is_some before ≡ false → due (against_book (Open name terms) before) ≡ None
  none_due before clear closed =
      due_second (of_book (terms_input terms)) ((AlreadyOpen when is_some before) ∷ []) (due_of_book (terms_input terms) ∙ ap (option_map Book) clear) ∙ rw closed

  -- a line that opens the book
  pub opened_command : (before : Books) (rule : Market) (book : tables.Book Market Weeks) → is_some before ≡ false → Follows name rule →
      Opens any rule (record {}) terms (Ok book) → Commanded (Open name terms) before (Ok zeros) (Some (state book))
  opened_command before rule book closed f o =
      subst (λ d. CommandedBy d (Open name terms) before (Ok zeros) (Some (state book))) (sym (none_due before o.0 closed)) (inl (refl, fresh rule book f o))
