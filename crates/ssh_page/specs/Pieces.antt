-- The pieces of markup, tag by tag. The check compares them with the constant texts in the source.
use Rattle.std.specs.Prelude.{◌∷◌, [], ◌+◌, ℕ, List, codes, map}
use Rattle.std.specs.List.{slice_get}
use Rattle.std.specs.Option.{unwrap_or}
use denote.Enum.Declared.{tag_of}
use Rattle.ssh_page.specs.contracts.piece.Piece as piece_type
use Rattle.ssh_page.specs.declared.piece.Piece.{Piece}
use Rattle.ssh_page.specs.declared.piece.Piece.TheVariants as piece
use Rattle.ssh_page.specs.declared.piece.TheConstants.{MARKUP}
use Rattle.ssh_page.specs.declared.style.TheConstants.{STYLE}
use Rattle.ssh_page.specs.Tags.{Tag, opens, alone, closes, begins, begins_alone, goes_on, ends, reads, tags_html}

-- its tags
abbrev pub tags : Piece → List Tag
tags piece.Code = opens (codes "code") [] ∷ []
tags piece.CodeEnd = closes (codes "code") ∷ []
tags piece.Row = begins (codes "tr") (codes " class=\"ln") ∷ []
tags piece.FileId = goes_on (codes "\" id=\"f") ∷ []
tags piece.LineId = goes_on (codes "l") ∷ []
tags piece.RowNumber = ends (codes "\"") ∷ opens (codes "th") (codes " scope=\"row\"") ∷ []
tags piece.KeyCell = closes (codes "th") ∷ opens (codes "td") [] ∷ []
tags piece.RightsCell = closes (codes "td") ∷ opens (codes "td") [] ∷ []
tags piece.LimitsCell = closes (codes "td") ∷ opens (codes "td") [] ∷ []
tags piece.RowEnd = closes (codes "td") ∷ closes (codes "tr") ∷ reads (codes "\n") ∷ []
tags piece.TodayClass = goes_on (codes " a F") ∷ []
tags piece.SoonClass = goes_on (codes " b F") ∷ []
tags piece.TidyClass = goes_on (codes " c F") ∷ []
tags piece.PolicyClass = goes_on (codes " p F") ∷ []
tags piece.UnreadableClass = goes_on (codes " u") ∷ []
tags piece.AuthorityClass = goes_on (codes " ca") ∷ []
tags piece.NoComment = opens (codes "i") [] ∷ reads (codes "no comment") ∷ closes (codes "i") ∷ []
tags piece.KeyType = reads (codes " ") ∷ opens (codes "span") [] ∷ []
tags piece.KeyTypeEnd = closes (codes "span") ∷ []
tags piece.Fingerprint = alone (codes "br") [] ∷ opens (codes "samp") [] ∷ reads (codes "SHA256:") ∷ []
tags piece.FingerprintEnd = closes (codes "samp") ∷ []
tags piece.Port = opens (codes "b") [] ∷ reads (codes "port") ∷ closes (codes "b") ∷ []
tags piece.Agent = opens (codes "b") [] ∷ reads (codes "agent") ∷ closes (codes "b") ∷ []
tags piece.X11 = opens (codes "b") [] ∷ reads (codes "x11") ∷ closes (codes "b") ∷ []
tags piece.Pty = opens (codes "b") [] ∷ reads (codes "pty") ∷ closes (codes "b") ∷ []
tags piece.UserRc = opens (codes "b") [] ∷ reads (codes "rc") ∷ closes (codes "b") ∷ []
tags piece.RightOff = opens (codes "i") [] ∷ closes (codes "i") ∷ []
tags piece.NoRights = opens (codes "b") (codes " class=\"no\"") ∷ reads (codes "none") ∷ closes (codes "b") ∷ []
tags piece.RightsUnknown = opens (codes "i") [] ∷ reads (codes "cannot be read") ∷ closes (codes "i") ∷ []
tags piece.Limit = opens (codes "p") [] ∷ []
tags piece.LimitEnd = closes (codes "p") ∷ []
tags piece.NoLimit =
    opens (codes "p") (codes " class=\"nl\"") ∷ reads (codes "any command, from anywhere, for ever") ∷ closes (codes "p")
    ∷ []
tags piece.Finding = begins (codes "p") (codes " class=\"f") ∷ []
tags piece.FindingCode = ends (codes "\"") ∷ opens (codes "b") [] ∷ []
tags piece.FindingSays = closes (codes "b") ∷ reads (codes ": ") ∷ []
tags piece.SeeFile = reads (codes " ") ∷ begins (codes "a") (codes " href=\"#f") ∷ []
tags piece.SeeLine = ends (codes "\"") ∷ reads (codes "see line ") ∷ []
tags piece.LinkEnd = closes (codes "a") ∷ []
tags piece.Section = begins (codes "section") (codes " class=\"fl") ∷ []
tags piece.SectionName = ends (codes "\"") ∷ reads (codes "\n") ∷ opens (codes "h3") [] ∷ []
tags piece.SectionSays = closes (codes "h3") ∷ reads (codes "\n") ∷ opens (codes "p") [] ∷ []
tags piece.KeysTable =
    closes (codes "p") ∷ reads (codes "\n") ∷ opens (codes "div") (codes " class=\"t\"") ∷ reads (codes "\n")
    ∷ opens (codes "table") [] ∷ reads (codes "\n") ∷ opens (codes "thead") [] ∷ opens (codes "tr") []
    ∷ opens (codes "th") (codes " scope=\"col\"") ∷ reads (codes "Line") ∷ closes (codes "th")
    ∷ opens (codes "th") (codes " scope=\"col\"") ∷ reads (codes "Key and comment") ∷ closes (codes "th")
    ∷ opens (codes "th") (codes " scope=\"col\"") ∷ reads (codes "Rights") ∷ closes (codes "th")
    ∷ opens (codes "th") (codes " scope=\"col\"") ∷ reads (codes "Limits, and what was found") ∷ closes (codes "th")
    ∷ closes (codes "tr") ∷ closes (codes "thead") ∷ reads (codes "\n") ∷ opens (codes "tbody") [] ∷ reads (codes "\n") ∷ []
tags piece.HostsTable =
    closes (codes "p") ∷ reads (codes "\n") ∷ opens (codes "div") (codes " class=\"t\"") ∷ reads (codes "\n")
    ∷ opens (codes "table") [] ∷ reads (codes "\n") ∷ opens (codes "thead") [] ∷ opens (codes "tr") []
    ∷ opens (codes "th") (codes " scope=\"col\"") ∷ reads (codes "Line") ∷ closes (codes "th")
    ∷ opens (codes "th") (codes " scope=\"col\"") ∷ reads (codes "Key and comment") ∷ closes (codes "th")
    ∷ opens (codes "th") (codes " scope=\"col\"") ∷ reads (codes "Is") ∷ closes (codes "th")
    ∷ opens (codes "th") (codes " scope=\"col\"") ∷ reads (codes "Names, and what was found") ∷ closes (codes "th")
    ∷ closes (codes "tr") ∷ closes (codes "thead") ∷ reads (codes "\n") ∷ opens (codes "tbody") [] ∷ reads (codes "\n") ∷ []
tags piece.TableEnd =
    closes (codes "tbody") ∷ reads (codes "\n") ∷ closes (codes "table") ∷ reads (codes "\n") ∷ closes (codes "div")
    ∷ reads (codes "\n") ∷ closes (codes "section") ∷ reads (codes "\n") ∷ []
tags piece.SectionEnd = closes (codes "p") ∷ reads (codes "\n") ∷ closes (codes "section") ∷ reads (codes "\n") ∷ []
tags piece.Fault = opens (codes "strong") (codes " class=\"a\"") ∷ []
tags piece.FaultEnd = closes (codes "strong") ∷ reads (codes ": ") ∷ []
tags piece.Register =
    opens (codes "section") (codes " id=\"files\"") ∷ reads (codes "\n") ∷ opens (codes "h2") []
    ∷ reads (codes "Files that were read") ∷ closes (codes "h2") ∷ reads (codes "\n")
    ∷ opens (codes "p") (codes " class=\"says\"")
    ∷ reads (codes "SHA-256 is that of the bytes that were read, as sha256sum prints it: it ties this page to them.")
    ∷ closes (codes "p") ∷ reads (codes "\n") ∷ opens (codes "table") (codes " class=\"reg\"") ∷ reads (codes "\n")
    ∷ opens (codes "thead") [] ∷ opens (codes "tr") [] ∷ opens (codes "th") (codes " scope=\"col\"")
    ∷ reads (codes "File") ∷ closes (codes "th") ∷ opens (codes "th") (codes " scope=\"col\"") ∷ reads (codes "Lines")
    ∷ closes (codes "th") ∷ opens (codes "th") (codes " scope=\"col\"") ∷ reads (codes "Keys") ∷ closes (codes "th")
    ∷ opens (codes "th") (codes " scope=\"col\"") ∷ reads (codes "Unreadable") ∷ closes (codes "th")
    ∷ opens (codes "th") (codes " scope=\"col\"") ∷ reads (codes "Findings") ∷ closes (codes "th")
    ∷ opens (codes "th") (codes " scope=\"col\"") ∷ reads (codes "SHA-256") ∷ closes (codes "th") ∷ closes (codes "tr")
    ∷ closes (codes "thead") ∷ reads (codes "\n") ∷ opens (codes "tbody") [] ∷ reads (codes "\n") ∷ []
tags piece.FileRow =
    opens (codes "tr") [] ∷ opens (codes "th") (codes " scope=\"row\"") ∷ begins (codes "a") (codes " href=\"#f") ∷ []
tags piece.FileName = ends (codes "\"") ∷ []
tags piece.FirstCount = closes (codes "a") ∷ closes (codes "th") ∷ opens (codes "td") (codes " class=\"n\"") ∷ []
tags piece.NextCount = closes (codes "td") ∷ opens (codes "td") (codes " class=\"n\"") ∷ []
tags piece.Digest = closes (codes "td") ∷ opens (codes "td") [] ∷ opens (codes "samp") [] ∷ []
tags piece.DigestEnd = closes (codes "samp") ∷ closes (codes "td") ∷ closes (codes "tr") ∷ reads (codes "\n") ∷ []
tags piece.FaultCell = closes (codes "a") ∷ closes (codes "th") ∷ opens (codes "td") (codes " colspan=\"5\"") ∷ []
tags piece.FaultCellEnd = closes (codes "td") ∷ closes (codes "tr") ∷ reads (codes "\n") ∷ []
tags piece.RegisterTotal =
    closes (codes "tbody") ∷ reads (codes "\n") ∷ closes (codes "table") ∷ reads (codes "\n") ∷ opens (codes "p") [] ∷ []
tags piece.Sign =
    opens (codes "section") (codes " id=\"sign\"") ∷ reads (codes "\n") ∷ opens (codes "h2") [] ∷ reads (codes "Sign")
    ∷ closes (codes "h2") ∷ reads (codes "\n") ∷ opens (codes "p") []
    ∷ reads (codes "The review says what the lines of these files give. It does not read sshd_config, file permissions or key revocation lists, and it does not know who holds a key. Count a line that cannot be read (F1) as access. \"Keep\" is a decision of the people who sign.")
    ∷ closes (codes "p") ∷ reads (codes "\n") ∷ opens (codes "table") (codes " class=\"sg\"") ∷ reads (codes "\n")
    ∷ opens (codes "thead") [] ∷ opens (codes "tr") [] ∷ opens (codes "td") [] ∷ closes (codes "td")
    ∷ opens (codes "th") (codes " scope=\"col\"") ∷ reads (codes "Reviewed by") ∷ closes (codes "th")
    ∷ opens (codes "th") (codes " scope=\"col\"") ∷ reads (codes "Approved by") ∷ closes (codes "th")
    ∷ closes (codes "tr") ∷ closes (codes "thead") ∷ reads (codes "\n") ∷ opens (codes "tbody") [] ∷ reads (codes "\n")
    ∷ opens (codes "tr") [] ∷ opens (codes "th") (codes " scope=\"row\"") ∷ reads (codes "Name, role")
    ∷ closes (codes "th") ∷ opens (codes "td") [] ∷ closes (codes "td") ∷ opens (codes "td") [] ∷ closes (codes "td")
    ∷ closes (codes "tr") ∷ reads (codes "\n") ∷ opens (codes "tr") [] ∷ opens (codes "th") (codes " scope=\"row\"")
    ∷ reads (codes "Date") ∷ closes (codes "th") ∷ opens (codes "td") [] ∷ closes (codes "td") ∷ opens (codes "td") []
    ∷ closes (codes "td") ∷ closes (codes "tr") ∷ reads (codes "\n") ∷ opens (codes "tr") []
    ∷ opens (codes "th") (codes " scope=\"row\"") ∷ reads (codes "Compared with the review of") ∷ closes (codes "th")
    ∷ opens (codes "td") [] ∷ closes (codes "td") ∷ opens (codes "td") [] ∷ closes (codes "td") ∷ closes (codes "tr")
    ∷ reads (codes "\n") ∷ opens (codes "tr") [] ∷ opens (codes "th") (codes " scope=\"row\"")
    ∷ reads (codes "To be removed or mended, by when, by whom") ∷ closes (codes "th") ∷ opens (codes "td") []
    ∷ closes (codes "td") ∷ opens (codes "td") [] ∷ closes (codes "td") ∷ closes (codes "tr") ∷ reads (codes "\n")
    ∷ opens (codes "tr") [] ∷ opens (codes "th") (codes " scope=\"row\"") ∷ reads (codes "Signature")
    ∷ closes (codes "th") ∷ opens (codes "td") [] ∷ closes (codes "td") ∷ opens (codes "td") [] ∷ closes (codes "td")
    ∷ closes (codes "tr") ∷ reads (codes "\n") ∷ closes (codes "tbody") ∷ reads (codes "\n") ∷ closes (codes "table")
    ∷ reads (codes "\n") ∷ opens (codes "p") [] ∷ reads (codes "To sign the file itself: ") ∷ opens (codes "kbd") []
    ∷ reads (codes "ssh-keygen -Y sign -n access-review -f KEY PAGE") ∷ closes (codes "kbd")
    ∷ reads (codes ". To see whether a file of the list is still the same: ") ∷ opens (codes "kbd") []
    ∷ reads (codes "sha256sum FILE") ∷ closes (codes "kbd")
    ∷ reads (codes ". What changed since the last review is a difference of two JSON lists: docs/RECIPES.md.")
    ∷ closes (codes "p") ∷ reads (codes "\n") ∷ closes (codes "section") ∷ reads (codes "\n") ∷ []
tags piece.Front =
    alone (codes "!DOCTYPE") (codes " html") ∷ reads (codes "\n") ∷ opens (codes "html") (codes " lang=\"en\"")
    ∷ reads (codes "\n") ∷ opens (codes "head") [] ∷ reads (codes "\n")
    ∷ alone (codes "meta") (codes " charset=\"utf-8\"") ∷ reads (codes "\n")
    ∷ alone (codes "meta") (codes " http-equiv=\"Content-Security-Policy\" content=\"default-src 'none'; style-src 'sha256-a/uv0VIBpsGMtHiL32HGXUkqePuff6iPlf6C/yW8prE='; base-uri 'none'; form-action 'none'\"")
    ∷ reads (codes "\n")
    ∷ alone (codes "meta") (codes " name=\"viewport\" content=\"width=device-width, initial-scale=1\"")
    ∷ reads (codes "\n") ∷ alone (codes "meta") (codes " name=\"color-scheme\" content=\"light dark\"")
    ∷ reads (codes "\n")
    ∷ alone (codes "meta") (codes " name=\"format-detection\" content=\"telephone=no, date=no, address=no, email=no\"")
    ∷ reads (codes "\n") ∷ alone (codes "meta") (codes " name=\"robots\" content=\"noindex\"") ∷ reads (codes "\n")
    ∷ opens (codes "title") [] ∷ []
tags piece.StyleStart = closes (codes "title") ∷ reads (codes "\n") ∷ opens (codes "style") [] ∷ reads (codes "\n") ∷ []
tags piece.Style = reads STYLE.now ∷ []
tags piece.StyleEnd =
    closes (codes "style") ∷ reads (codes "\n") ∷ closes (codes "head") ∷ reads (codes "\n") ∷ opens (codes "body") []
    ∷ reads (codes "\n") ∷ opens (codes "a") (codes " class=\"skip\" href=\"#mend\"")
    ∷ reads (codes "To what has to be mended")
    ∷ closes (codes "a") ∷ reads (codes "\n") ∷ opens (codes "header") [] ∷ reads (codes "\n")
    ∷ opens (codes "p") (codes " class=\"org\"") ∷ reads (codes "ssh_audit review") ∷ closes (codes "p")
    ∷ reads (codes "\n") ∷ opens (codes "h1") [] ∷ []
tags piece.HeadingEnd = closes (codes "h1") ∷ reads (codes "\n") ∷ []
tags piece.VerdictGood =
    opens (codes "p") (codes " class=\"verdict ok\"") ∷ opens (codes "span") (codes " class=\"dot\" aria-hidden=\"true\"")
    ∷ closes (codes "span") ∷ []
tags piece.VerdictBad =
    opens (codes "p") (codes " class=\"verdict a\"") ∷ opens (codes "span") (codes " class=\"dot\" aria-hidden=\"true\"")
    ∷ closes (codes "span") ∷ []
tags piece.ParagraphEnd = closes (codes "p") ∷ reads (codes "\n") ∷ []
tags piece.Tiles = opens (codes "ul") (codes " class=\"tiles\"") ∷ reads (codes "\n") ∷ []
tags piece.Tile = opens (codes "li") [] ∷ opens (codes "b") [] ∷ []
tags piece.TileWords = closes (codes "b") ∷ reads (codes " ") ∷ []
tags piece.ItemEnd = closes (codes "li") ∷ reads (codes "\n") ∷ []
tags piece.ListEnd = closes (codes "ul") ∷ reads (codes "\n") ∷ []
tags piece.Asked = opens (codes "dl") (codes " class=\"asked\"") ∷ reads (codes "\n") ∷ []
tags piece.Term = opens (codes "dt") [] ∷ []
tags piece.TermSays = closes (codes "dt") ∷ opens (codes "dd") [] ∷ []
tags piece.TermEnd = closes (codes "dd") ∷ reads (codes "\n") ∷ []
tags piece.HeaderEnd =
    closes (codes "dl") ∷ reads (codes "\n") ∷ opens (codes "p") (codes " class=\"says\"")
    ∷ reads (codes "Text on a tinted ground, ") ∷ opens (codes "code") [] ∷ reads (codes "like this")
    ∷ closes (codes "code")
    ∷ reads (codes ", comes from the files: whoever can write there wrote it. It is printable ASCII; every other byte, and the backslash, is shown as \\x and two digits.")
    ∷ closes (codes "p") ∷ reads (codes "\n") ∷ opens (codes "nav") (codes " aria-label=\"Parts of this page\"")
    ∷ opens (codes "a") (codes " href=\"#mend\"") ∷ reads (codes "What has to be mended") ∷ closes (codes "a")
    ∷ reads (codes " ") ∷ opens (codes "a") (codes " href=\"#keys\"") ∷ reads (codes "Keys") ∷ closes (codes "a")
    ∷ reads (codes " ") ∷ opens (codes "a") (codes " href=\"#lines\"") ∷ reads (codes "Every line") ∷ closes (codes "a")
    ∷ reads (codes " ") ∷ opens (codes "a") (codes " href=\"#files\"") ∷ reads (codes "Files") ∷ closes (codes "a")
    ∷ reads (codes " ") ∷ opens (codes "a") (codes " href=\"#sign\"") ∷ reads (codes "Sign") ∷ closes (codes "a")
    ∷ closes (codes "nav") ∷ reads (codes "\n") ∷ closes (codes "header") ∷ reads (codes "\n") ∷ opens (codes "main") []
    ∷ reads (codes "\n") ∷ []
tags piece.Mend =
    opens (codes "section") (codes " id=\"mend\"") ∷ reads (codes "\n") ∷ opens (codes "h2") []
    ∷ reads (codes "What has to be mended") ∷ closes (codes "h2") ∷ reads (codes "\n") ∷ []
tags piece.TodayGroup =
    opens (codes "h3") (codes " class=\"a\"") ∷ opens (codes "span") (codes " class=\"dot\" aria-hidden=\"true\"")
    ∷ closes (codes "span") ∷ reads (codes "Today") ∷ closes (codes "h3") ∷ reads (codes "\n")
    ∷ opens (codes "p") (codes " class=\"says\"")
    ∷ reads (codes "A line does other than it seems to do, or nobody can say what it does.") ∷ closes (codes "p")
    ∷ reads (codes "\n") ∷ opens (codes "dl") (codes " class=\"codes\"") ∷ reads (codes "\n") ∷ []
tags piece.SoonGroup =
    opens (codes "h3") (codes " class=\"b\"") ∷ opens (codes "span") (codes " class=\"dot\" aria-hidden=\"true\"")
    ∷ closes (codes "span") ∷ reads (codes "Soon") ∷ closes (codes "h3") ∷ reads (codes "\n")
    ∷ opens (codes "p") (codes " class=\"says\"")
    ∷ reads (codes "A weak key, a way around a limit, or two lines for one key.") ∷ closes (codes "p") ∷ reads (codes "\n")
    ∷ opens (codes "dl") (codes " class=\"codes\"") ∷ reads (codes "\n") ∷ []
tags piece.TidyGroup =
    opens (codes "h3") (codes " class=\"c\"") ∷ opens (codes "span") (codes " class=\"dot\" aria-hidden=\"true\"")
    ∷ closes (codes "span") ∷ reads (codes "Tidy up") ∷ closes (codes "h3") ∷ reads (codes "\n")
    ∷ opens (codes "p") (codes " class=\"says\"") ∷ reads (codes "Lines that let nobody in, or never decide.")
    ∷ closes (codes "p") ∷ reads (codes "\n") ∷ opens (codes "dl") (codes " class=\"codes\"") ∷ reads (codes "\n") ∷ []
tags piece.PolicyGroup =
    opens (codes "h3") (codes " class=\"p\"") ∷ opens (codes "span") (codes " class=\"dot\" aria-hidden=\"true\"")
    ∷ closes (codes "span") ∷ reads (codes "Policy") ∷ closes (codes "h3") ∷ reads (codes "\n")
    ∷ opens (codes "p") (codes " class=\"says\"")
    ∷ reads (codes "Told because it was asked for: a policy may want it otherwise.") ∷ closes (codes "p")
    ∷ reads (codes "\n") ∷ opens (codes "dl") (codes " class=\"codes\"") ∷ reads (codes "\n") ∷ []
tags piece.GroupEnd = closes (codes "dl") ∷ reads (codes "\n") ∷ []
tags piece.FoundCode = opens (codes "dt") [] ∷ opens (codes "b") (codes " class=\"cd\"") ∷ []
tags piece.FoundCount = closes (codes "b") ∷ reads (codes " ") ∷ opens (codes "span") (codes " class=\"n\"") ∷ []
tags piece.FoundBar =
    closes (codes "span") ∷ reads (codes " ") ∷ begins (codes "svg") (codes " class=\"bar\" viewBox=\"0 0 ") ∷ []
tags piece.FoundBarLength =
    ends (codes " 1\" preserveAspectRatio=\"none\" aria-hidden=\"true\"") ∷ begins (codes "rect") (codes " width=\"") ∷ []
tags piece.FoundMeans =
    ends (codes "\" height=\"1\"") ∷ closes (codes "rect") ∷ closes (codes "svg") ∷ reads (codes " ")
    ∷ opens (codes "span") (codes " class=\"mean\"") ∷ []
tags piece.FoundRemedy =
    closes (codes "span") ∷ closes (codes "dt") ∷ reads (codes "\n") ∷ opens (codes "dd") [] ∷ opens (codes "p") []
    ∷ reads (codes "What to do: ") ∷ []
tags piece.FoundEnd = reads (codes ".") ∷ closes (codes "p") ∷ closes (codes "dd") ∷ reads (codes "\n") ∷ []
tags piece.Places = reads (codes ".") ∷ closes (codes "p") ∷ opens (codes "p") [] ∷ []
tags piece.PlaceFile = begins (codes "a") (codes " href=\"#f") ∷ []
tags piece.PlacesEnd = closes (codes "p") ∷ closes (codes "dd") ∷ reads (codes "\n") ∷ []
tags piece.NothingToMend = opens (codes "p") [] ∷ reads (codes "Nothing.") ∷ closes (codes "p") ∷ reads (codes "\n") ∷ []
tags piece.MendEnd = closes (codes "section") ∷ reads (codes "\n") ∷ []
tags piece.Absent =
    opens (codes "p") (codes " class=\"says\"") ∷ reads (codes "Looked for in every line, and not found:")
    ∷ closes (codes "p") ∷ reads (codes "\n") ∷ opens (codes "ul") [] ∷ reads (codes "\n") ∷ []
tags piece.Item = opens (codes "li") [] ∷ []
tags piece.LeftOut = opens (codes "p") (codes " class=\"says\"") ∷ reads (codes "Not looked for:") ∷ []
tags piece.Keys =
    opens (codes "section") (codes " id=\"keys\"") ∷ reads (codes "\n") ∷ opens (codes "h2") []
    ∷ reads (codes "Where each key stands") ∷ closes (codes "h2") ∷ reads (codes "\n")
    ∷ opens (codes "p") (codes " class=\"says\"") ∷ []
tags piece.Key = begins (codes "article") (codes " id=\"k") ∷ []
tags piece.KeyPrint = opens (codes "samp") [] ∷ reads (codes "SHA256:") ∷ []
tags piece.Limited = reads (codes " ") ∷ opens (codes "i") [] ∷ reads (codes "(limited)") ∷ closes (codes "i") ∷ []
tags piece.KeyEnd = closes (codes "p") ∷ reads (codes "\n") ∷ closes (codes "article") ∷ reads (codes "\n") ∷ []
tags piece.Picture =
    opens (codes "table") (codes " class=\"mx\"") ∷ reads (codes "\n") ∷ opens (codes "caption") []
    ∷ reads (codes "Keys in more than two files: each column is a file, in the order of the list of files. A mark is low where the key is limited.")
    ∷ closes (codes "caption") ∷ reads (codes "\n") ∷ opens (codes "thead") [] ∷ opens (codes "tr") []
    ∷ opens (codes "th") (codes " scope=\"col\"") ∷ reads (codes "Key") ∷ closes (codes "th")
    ∷ opens (codes "th") (codes " scope=\"col\"") ∷ reads (codes "Files") ∷ closes (codes "th")
    ∷ opens (codes "th") (codes " scope=\"col\"") ∷ reads (codes "Where") ∷ closes (codes "th") ∷ closes (codes "tr")
    ∷ closes (codes "thead") ∷ reads (codes "\n") ∷ opens (codes "tbody") [] ∷ reads (codes "\n") ∷ []
tags piece.PictureRow =
    opens (codes "tr") [] ∷ opens (codes "th") (codes " scope=\"row\"") ∷ begins (codes "a") (codes " href=\"#k") ∷ []
tags piece.Strip =
    closes (codes "td") ∷ opens (codes "td") [] ∷ begins (codes "svg") (codes " class=\"strip\" viewBox=\"0 0 ") ∷ []
tags piece.StripColumns =
    ends (codes " 1\" preserveAspectRatio=\"none\" aria-hidden=\"true\"")
    ∷ begins (codes "path") (codes " class=\"full\" d=\"") ∷ []
tags piece.Column = goes_on (codes "M") ∷ []
tags piece.ColumnEnd = goes_on (codes " 0h1v1h-1z") ∷ []
tags piece.LowColumnEnd = goes_on (codes " .5h1v.5h-1z") ∷ []
tags piece.StripEnd =
    ends (codes "\"") ∷ closes (codes "path") ∷ closes (codes "svg") ∷ closes (codes "td") ∷ closes (codes "tr")
    ∷ reads (codes "\n") ∷ []
tags piece.PictureEnd = closes (codes "tbody") ∷ reads (codes "\n") ∷ closes (codes "table") ∷ reads (codes "\n") ∷ []
tags piece.Lines =
    opens (codes "section") (codes " id=\"lines\"") ∷ reads (codes "\n") ∷ opens (codes "h2") []
    ∷ reads (codes "Every line, by file") ∷ closes (codes "h2") ∷ reads (codes "\n") ∷ []
tags piece.Choices =
    opens (codes "p") (codes " class=\"says\"")
    ∷ reads (codes "A choice hides the other lines on the screen. On paper all lines stand.")
    ∷ closes (codes "p") ∷ reads (codes "\n") ∷ opens (codes "b") (codes " class=\"show\"") ∷ reads (codes "Show")
    ∷ closes (codes "b") ∷ reads (codes " ")
    ∷ alone (codes "input") (codes " type=\"radio\" name=\"show\" id=\"s0\" checked")
    ∷ opens (codes "label") (codes " for=\"s0\"") ∷ reads (codes "all lines") ∷ closes (codes "label") ∷ reads (codes "\n")
    ∷ []
tags piece.Choice = begins_alone (codes "input") (codes " type=\"radio\" name=\"show\" id=\"s") ∷ []
tags piece.ChoiceLabel = ends (codes "\"") ∷ begins (codes "label") (codes " for=\"s") ∷ []
tags piece.ChoiceWords = ends (codes "\"") ∷ []
tags piece.ChoiceEnd = closes (codes "label") ∷ reads (codes "\n") ∷ []
tags piece.Sections = opens (codes "div") (codes " class=\"all\"") ∷ reads (codes "\n") ∷ []
tags piece.LinesEnd = closes (codes "div") ∷ reads (codes "\n") ∷ closes (codes "section") ∷ reads (codes "\n") ∷ []
tags piece.PageEnd =
    closes (codes "main") ∷ reads (codes "\n") ∷ opens (codes "footer") [] ∷ opens (codes "p") []
    ∷ reads (codes "Written by ssh_audit review --form html. No script, nothing from outside, no link out.")
    ∷ closes (codes "p") ∷ closes (codes "footer") ∷ reads (codes "\n") ∷ closes (codes "body") ∷ reads (codes "\n")
    ∷ closes (codes "html") ∷ reads (codes "\n") ∷ []

-- its HTML
abbrev pub piece_html : Piece → List ℕ
piece_html p = tags_html (tags p)

-- the byte that stands for it in a marked text
unfoldable pub mark : Piece → ℕ
mark p = 128 + tag_of piece_type.the_type p

-- the texts in the source
unfoldable pub all_markup : List (List ℕ)
all_markup = map (λ html. html.now) MARKUP

-- the one of this number, counted from 0; nothing if there is none
unfoldable pub markup_at : ℕ → List ℕ
markup_at n = unwrap_or (slice_get all_markup n) []
