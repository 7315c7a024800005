mod Eight
