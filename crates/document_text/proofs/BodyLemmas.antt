-- The lines behind a circuit, or without one.
use Rattle.std.proofs.Common.{◌≡◌, ℕ, ◌+◌, ◌≤◌, Bool, true, false, Option, Some, None, List, [], length, refl, sym, ap, subst, ◌∙◌, arith}
use Rattle.std.specs.Prelude.{is_some}
use Rattle.std.proofs.lemmas.List.{length-append}
use Rattle.document_text.specs.declared.order.Order.{Order}
use Rattle.document_text.specs.Order.{first_place}
use Rattle.document_text.specs.Header.{HeaderRead, header_of}
use Rattle.document_text.specs.Logs.{LogsRead, ReadsLogs}
use Rattle.document_text.specs.Reading.{ReadsBody, of_header, line_count, order_in}
use Rattle.document_text.proofs.HeaderWhole.{good_header, lines_text}
use Rattle.document_text.proofs.ReadingLemmas.{body_reads}

module _ (circuit : Bool) (first : ℕ) (bytes : List ℕ) (found : HeaderRead) (is : header_of circuit first bytes ≡ found) where
  bad_by : (o : Option ℕ) → found.header.bad ≡ o → is_some o ≡ true → ReadsBody circuit first bytes (record { header = found.header; logs = []; bad = o })
  bad_by None e some = absurd (cc)
  bad_by (Some n) e some =
      subst (λ (x : HeaderRead). ReadsBody circuit first bytes (record { header = x.header; logs = []; bad = Some n })) is
      (of_header n (ap (λ (x : HeaderRead). x.header.bad) is ∙ e))

  -- a bad line of the header is that of the body
  pub bad_header : is_some found.header.bad ≡ true → ReadsBody circuit first bytes (record { header = found.header; logs = []; bad = found.header.bad })
  bad_header some = bad_by found.header.bad refl some

  none_by : (o : Option ℕ) → is_some o ≡ false → o ≡ None
  none_by None none = refl
  none_by (Some n) none = absurd (cc)

  pub good : is_some found.header.bad ≡ false → found.header.bad ≡ None
  good none = none_by found.header.bad none

  -- what is behind a header is of the bytes
  pub rest_fits : is_some found.header.bad ≡ false → length found.rest ≤ length bytes
  rest_fits none =
      let g = good_header circuit first bytes (ap (λ (x : HeaderRead). x.header.bad) is ∙ good none) in
      let same : g.rest ≡ found.rest = ap (λ (x : HeaderRead). x.rest) (sym g.read ∙ is) in
      let n : length bytes ≡ length (lines_text g.version g.verdict g.kind g.max g.entries g.found) + length g.rest =
      ap length g.text ∙ length-append (lines_text g.version g.verdict g.kind g.max g.entries g.found) g.rest in
      let m : length g.rest ≡ length found.rest = ap length same in
      omega (arith, n, m)

  pub good_logs_behind : (order : Order) (count : ℕ) (more : LogsRead) → is_some found.header.bad ≡ false → order ≡ order_in found.header → count ≡ line_count found.header
      → ReadsLogs order (first_place order) (first + count) found.rest more → ReadsBody circuit first bytes (record { header = found.header; logs = more.logs; bad = more.bad })
  good_logs_behind order count more none o c reads =
      body_reads circuit first bytes found more is (good none)
      (subst (λ (n : ℕ). ReadsLogs (order_in found.header) (first_place (order_in found.header)) (first + n) found.rest more) c
      (subst (λ (x : Order). ReadsLogs x (first_place x) (first + count) found.rest more) o reads))
