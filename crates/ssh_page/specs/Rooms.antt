-- Room for HTML (this project's rule).
use Rattle.std.specs.Prelude.{ℕ, List, take}
use Rattle.ssh_page.specs.declared.room.HtmlRoom.{HtmlRoom}

-- the HTML in a room
abbrev pub html_in : HtmlRoom → List ℕ
html_in r = take r.len r.bytes.items
